mod Holding
mod SayingLaws
mod Filling
mod Framed
mod Opened
mod Answering
mod Seal
