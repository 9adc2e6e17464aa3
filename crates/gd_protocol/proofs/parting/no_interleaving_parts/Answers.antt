use Rattle.gd_protocol.proofs.Interleavings.{all_taken, kept_after, none_parted, none_shown}
use Rattle.gd_protocol.proofs.parting.no_interleaving_parts.Goals as goal

pub returns-clause-parted : goal.returns-clause-parted
returns-clause-parted c n session steps = none_parted _ (kept_after n session steps)

pub returns-clause-shown : goal.returns-clause-shown
returns-clause-shown c n session steps = none_shown _ (kept_after n session steps)

pub returns-clause-taken : goal.returns-clause-taken
returns-clause-taken c n session steps = all_taken _ (kept_after n session steps)
