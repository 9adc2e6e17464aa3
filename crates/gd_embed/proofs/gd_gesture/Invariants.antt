use Rattle.gd_embed.proofs.gd_gesture.Given as goal

-- the ledger is that of the blank
abbrev pub ghosts-gesture : goal.ghosts-gesture
ghosts-gesture a = record { name = a.blank.name; parts = a.blank.parts }
