use Rattle.gd_embed.proofs.gd_line.Given as goal

-- the ledger is that of the blank
abbrev pub ghosts-line : goal.ghosts-line
ghosts-line a = record { name = a.blank.name; parts = a.blank.parts }
