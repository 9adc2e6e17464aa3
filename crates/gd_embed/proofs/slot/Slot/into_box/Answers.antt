use Rattle.gd_embed.proofs.Holding.{live_by}
use Rattle.gd_embed.proofs.slot.Slot.into_box.Goals as goal

pub into_box-requires : goal.into_box-requires
into_box-requires c = live_by c.args.self.handle.value c.args.self.is_live c.args.self.is_said c.if-self.true
