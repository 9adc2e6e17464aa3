use Rattle.gd_wire.proofs.write.write_event_of.Goals as goal

pub put-requires-clause-sound : goal.put-requires-clause-sound
put-requires-clause-sound g c = (c.args.event.now.stamp, rw c.op.ensures.op c.op.ensures.sound.op)
