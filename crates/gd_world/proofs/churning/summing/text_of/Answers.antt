use Rattle.std.proofs.Common.{◌++◌, length, ◌∙◌, refl, sym, ap}
use Rattle.std.proofs.lemmas.List.{take_all}
use Rattle.gd_lines.specs.Replies.{reply_text}
use Rattle.gd_lines.specs.declared.reply.Reply.TheVariants as reply
use Rattle.gd_world.proofs.SummedTexts.{item_texts, texts_end, texts_more}
use Rattle.gd_world.proofs.churning.summing.text_of.Goals as goal

pub loop-item-preserved : goal.loop-item-preserved
loop-item-preserved c =
    texts_more c.args.items.now c.loop-item.item-index c.item-item.result c.item-item.result c.loop-item.text.items
    c.put_item.new.text.items c.loop-item-test.true c.item-item.is refl c.loop-item.invariant c.in_ok-put_item.ensures

pub returns : goal.returns
returns c =
    let last = reply.End (length c.args.items.now) in
    c.in_ok-put_end.ensures
    ∙ ap (λ text. text ++ reply_text last)
    (c.loop-item.invariant
    ∙ ap item_texts (take_all c.loop-item.item-index c.args.items.now c.loop-item-test.false))
    ∙ sym (texts_end c.args.items.now last)
