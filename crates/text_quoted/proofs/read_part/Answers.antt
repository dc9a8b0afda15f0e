-- `text_quoted::read_part` meets its contract. The run, and what ends it.
use Prim.Native.Nat.{◌+◌, ◌-◌}
use lib.ListN.{drop}
use Rattle.utf8_laws.specs.Names.{unescaped_byte}
use Rattle.text_quoted.specs.Quoted.{quote_of}
use Rattle.text_quoted.specs.Pieces.{Went}
use Rattle.text_quoted.proofs.Parts.{copied_went, behind_starts, went_room, turning_then}
use Rattle.text_quoted.proofs.read_part.Goals as goal

pub special-requires : goal.special-requires
special-requires c =
    let ran : Went (quote_of c.args.quote) c.args.s.now c.args.at c.args.out.now c.args.len c.copy_plain-i.new.out c.copy_plain-i.result (c.args.len + (c.copy_plain-i.result - c.args.at)) (drop c.copy_plain-i.result c.args.s.now) = copied_went (quote_of c.args.quote) c.args.s.now c.args.at c.args.out.now c.args.len c.copy_plain-i.new.out c.copy_plain-i.result c.requires.sound c.copy_plain-i.ensures in
    let r = ran in (
      c.requires.is_quote,
      rw c.copy_plain-i.ensures.rest (behind_starts unescaped_byte (drop c.args.at c.args.s.now)),
      r.to,
      went_room _ _ _ _ _ _ _ _ r c.requires.room,
    )

pub returns : goal.returns
returns c =
    let ran : Went (quote_of c.args.quote) c.args.s.now c.args.at c.args.out.now c.args.len c.copy_plain-i.new.out c.copy_plain-i.result (c.args.len + (c.copy_plain-i.result - c.args.at)) (drop c.copy_plain-i.result c.args.s.now) = copied_went (quote_of c.args.quote) c.args.s.now c.args.at c.args.out.now c.args.len c.copy_plain-i.new.out c.copy_plain-i.result c.requires.sound c.copy_plain-i.ensures in
    turning_then _ _ _ _ _ _ _ _ ran c.special.new.out c.special.result c.special.ensures
