use Rattle.std.proofs.Common.{rules, ◌≡◌, ◌∷◌, ◌++◌, []}
use Rattle.gd_real.proofs.AddressLemmas.{one-more}
use Rattle.gd_real.proofs.socket.read_addresses.Goals as goal

pub loop-word-preserved : goal.loop-word-preserved
loop-word-preserved c =
    let pushed : c.push.new.self.items
    ≡ c.loop-word.addresses.items ++ c.in_ok-read_address.field-0 ∷ [] = (search rules) in
    rw pushed (one-more c.args.words.now c.loop-word.addresses.items c.loop-word.word-index c.word-item.result
    c.in_ok-read_address.field-0
    (search rules) c.loop-word.invariant (rw (← c.word-item.is) c.in_ok-read_address.ensures))
