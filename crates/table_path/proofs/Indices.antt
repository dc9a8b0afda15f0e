-- The digits of an index, from the last to the first. Assumes nothing.
use Prim.Native.Nat.{ℕ, suc, ◌+◌, ◌*◌, ◌/◌, ◌%◌, ◌≤◌, ◌<◌}
use mathlib.Core.Path.{◌≡◌, refl, sym, ap, ◌∙◌, subst}
use mathlib.Core.List.{List, [], ◌∷◌, ◌++◌, append-nil, append_assoc}
use lib.ListN.{length, length-append}
use native.Mathlib.Omega.{arith}
use Rattle.definition.specs.Paths.{written}
use Rattle.table_path_laws.specs.Digits.{wrote, written_one, written_more}
use Rattle.table_path.specs.Words.{Put, Room}
use Rattle.table_path.proofs.Puts.{put_nothing, put_before, room_left}

-- a number from 10 on: the digits of its tenth, and one more
pub written_step : (m : ℕ) → 10 ≤ m → written m ≡ written (m / 10) ++ ((0x30 + m % 10) ∷ [])
written_step m l =
    let e : m ≡ m / 10 * 10 + m % 10 = omega arith in
    ap written e ∙ written_more (m / 10) (m % 10) (omega arith) (omega arith)

pub length_step : (m : ℕ) → 10 ≤ m → length (written m) ≡ length (written (m / 10)) + 1
length_step m l = ap length (written_step m l) ∙ length-append (written (m / 10)) ((0x30 + m % 10) ∷ [])

-- a number below 10 has one digit, and no number has none
pub length_one : (m : ℕ) → m < 10 → length (written m) ≡ 1
length_one m l = ap length (written_one m l)

pub length_some : (m : ℕ) → 1 ≤ length (written m)
length_some m = let w = wrote m in let e = ap length w.is in omega arith

-- The digits behind those of m are put: with the digits of m before them they are the digits of n.
pub record Indexed (B₀ : List ℕ) (end n : ℕ) (B : List ℕ) (at m : ℕ) : Type 0 where
  pub behind : List ℕ
  pub is : written n ≡ written m ++ behind
  pub put : Put B₀ end behind B at

pub index_start : (B : List ℕ) (end n : ℕ) → Indexed B end n B end n
index_start B end n = record { behind = []; is = sym (append-nil (written n)); put = put_nothing B end }

module _ {B₀ B : List ℕ} {end n at m : ℕ} (x : Indexed B₀ end n B at m) where
  -- there is room for a digit
  pub digit_room : Room B₀ end (length (written n)) → Room B at 1
  digit_room r =
      let e = ap length x.is ∙ length-append (written m) x.behind in
      let s = length_some m in
      let k = r.enough in
      room_left 1 x.put r.inside (omega arith)

  pub index_next : {C : List ℕ} {from : ℕ} → 10 ≤ m → Put B at ((0x30 + m % 10) ∷ []) C from → Indexed B₀ end n C from (m / 10)
  index_next l q =
      record {
        behind = (0x30 + m % 10) ∷ x.behind;
        is = x.is ∙ ap (λ (s : List ℕ). s ++ x.behind) (written_step m l) ∙ append_assoc (written (m / 10)) ((0x30 + m % 10) ∷ []) x.behind;
        put = put_before x.put q;
      }

  pub index_last : {C : List ℕ} {from : ℕ} → m < 10 → Put B at ((0x30 + m) ∷ []) C from → Put B₀ end (written n) C from
  index_last {C} {from} l q =
      let e = x.is ∙ ap (λ (s : List ℕ). s ++ x.behind) (written_one m l) in
      subst (λ (s : List ℕ). Put B₀ end s C from) (sym e) (put_before x.put q)
