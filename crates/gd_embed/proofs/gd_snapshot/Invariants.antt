use Rattle.gd_embed.proofs.gd_snapshot.Given as goal

-- the ledger is that of the blank
abbrev pub ghosts-snapshot : goal.ghosts-snapshot
ghosts-snapshot a = record { name = a.blank.name; parts = a.blank.parts }
