-- `text_quoted::unescape_string` meets its contract. What was read so far, and what each part adds.
use Rattle.basics.specs.Stores.{wrote_length}
use native.Mathlib.Omega.{arith}
use mathlib.Core.Path.{◌∙◌}
use Rattle.text_quoted.specs.Quoted.{quote_of}
use Rattle.text_quoted.proofs.Parts.{went_start, went_then, went_fails, went_sound, went_room, unescaped, refused}
use Rattle.std.proofs.lemmas.Result.{err_from_is_err_and}
use Rattle.text_quoted.proofs.unescape_string.Goals as goal

pub loop-part-init : goal.loop-part-init
loop-part-init c = went_start (quote_of c.args.quote) c.args.s.now c.args.at c.args.out.now c.args.len c.requires.within

pub read_part-requires : goal.read_part-requires
read_part-requires c = record { is_quote = c.requires.is_quote; sound = went_sound _ _ _ _ _ _ _ _ c.loop-part.invariant c.requires.sound; within = c.loop-part.invariant.to; room = went_room _ _ _ _ _ _ _ _ c.loop-part.invariant c.requires.room }

pub loop-part-smaller : goal.loop-part-smaller
loop-part-smaller c =
    let t = (rw c.in-On.is at c.in_ok-part.ensures) in
    omega (arith, t.0, t.1.to)

pub loop-part-preserved : goal.loop-part-preserved
loop-part-preserved c = went_then (quote_of c.args.quote) c.args.s.now c.args.at c.args.out.now c.args.len c.loop-part.out c.loop-part.so_far.next c.loop-part.so_far.end c.loop-part.invariant _ _ _ _ (rw c.in-On.is at c.in_ok-part.ensures).1

pub shape_of-out-in-End : goal.shape_of-out-in-End
shape_of-out-in-End c = c.read_part.auto.out ∙ wrote_length c.loop-part.invariant.wrote

pub returns-in-End : goal.returns-in-End
returns-in-End c =
    let t = (rw c.in-End.is at c.in_ok-part.ensures) in
    unescaped (quote_of c.args.quote) c.args.s.now c.args.at c.args.out.now c.args.len _ _ _ c.requires.sound (omega (arith, t.0, c.loop-part.invariant.from)) (went_then (quote_of c.args.quote) c.args.s.now c.args.at c.args.out.now c.args.len c.loop-part.out c.loop-part.so_far.next c.loop-part.so_far.end c.loop-part.invariant _ _ _ _ t.1)

pub shape_of-out-in_err-part : goal.shape_of-out-in_err-part
shape_of-out-in_err-part c = c.read_part.auto.out ∙ wrote_length c.loop-part.invariant.wrote

pub returns-in_err-part : goal.returns-in_err-part
returns-in_err-part c =
    let p = err_from_is_err_and c.from_residual.result c.from_residual.ensures.1 in
    rw (p.1, p.2) (refused (quote_of c.args.quote) c.args.s.now c.args.at c.args.out.now c.args.len _ _ (went_fails (quote_of c.args.quote) c.args.s.now c.args.at c.args.out.now c.args.len c.loop-part.out c.loop-part.so_far.next c.loop-part.so_far.end c.loop-part.invariant _ _ (c.in_err-part.ensures)))
