use Rattle.gd_embed.proofs.gd_open.Given as goal

-- the ledger is that of the blank
abbrev pub ghosts-opened : goal.ghosts-opened
ghosts-opened a = record { name = a.blank.name; parts = a.blank.parts }
