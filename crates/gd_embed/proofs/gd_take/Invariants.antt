use Rattle.gd_embed.proofs.gd_take.Given as goal

-- the ledger is that of the blank
abbrev pub ghosts-take : goal.ghosts-take
ghosts-take a = record { name = a.blank.name; parts = a.blank.parts }
