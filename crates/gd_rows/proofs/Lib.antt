pub mod Computing
mod ByDrawing
mod Turned
mod BlankLines
mod BlankScripts
