-- The laws of the readers of bounds and slices. Assumes nothing.
use Prim.Native.Nat.{ℕ, ◌+◌, ◌-◌, ◌/◌, ◌%◌, ◌≤◌, ◌<◌}
use native.Mathlib.Omega.{arith}
use mathlib.Core.Path.{◌≡◌, refl, sym, ap, ◌∙◌}
use mathlib.Core.List.{List, ◌∷◌, ◌++◌}
use mathlib.Core.Bool.{Bool, true, false, ◌&&◌, false≢true, true≢false}
use mathlib.Core.Option.{Option, none, some}
use borrow.Author.Tests.{eqb-true, eqb-false}
use lib.Dec.{eqb}
use lib.IntN.{ℤ}
use lib.ListN.{length, drop, get_or, length-append, length-drop}
use Rattle.definition.specs.Bytes.{little_endian, signed64, unsigned64}
use Rattle.definition.specs.Literals.{in_range}
use Rattle.definition.specs.QueryForms.{bound_right}
use Rattle.definition.specs.Plans.{eight_of}
use Rattle.definition_bytes.specs.Numbers.{bound_length, range_inside, unsigned_fits}
use Rattle.basics.specs.Bools.{and_left, and_right, both_true}
use Rattle.basics.specs.Lists.{drop_at, same_tail}
use Rattle.plan_laws.specs.Lists.{number_same}
use Rattle.plan_laws.specs.Parts.{Spelt, plan_left}
use Rattle.plan_laws.specs.Leaves.{slices, Bounds, bit, bit_low, flags, flags_bits, append_three, bound_same, unsigned_same}
use Rattle.text.specs.Words.{Word}
use Rattle.plan_items.specs.Readings.{next, stop, AnyPool, BoundAt, NoBound, IsBound, bound, no_bound}
use Rattle.std.specs.Prelude.{Some, None}
use Rattle.plan_items.proofs.Words.{word_at}
use Rattle.plan_items.proofs.Laws.{signed_inside, unsigned_signed}

-- ---- one bound

module _ {S : List ℕ} {at n flag : ℕ} (bytes : (i : ℕ) → get_or S i 0 < 256) (h : at + 8 ≤ length S) (w : Word 8 S at n) where
  none_absent : (n ≡ 0 → ⊥) → flag ≡ 0 → (o : Option ℤ) (r : List ℕ) → bit o ≡ flag → bound_right o ≡ true → drop at S ≡ eight_of o ++ r → ⊥
  unfolding eight_of
  none_absent z e none r b i f = z (number_same 8 n 0 w.fits (omega arith) (word_at bytes h w) f).0
  none_absent z e (some y) r b i f = omega arith

  pub bound_absent : flag ≡ 0 → (b : Bool) → eqb n 0 ≡ b → IsBound S at flag b
  unfolding eight_of bound_right
  bound_absent e true f = bound (record { bound = none; is = word_at bytes h w ∙ ap (λ o. little_endian 8 o ++ drop (at + 8) S) (eqb-true n 0 f); right = refl; given = sym e })
  bound_absent e false f = no_bound (record { none = none_absent (eqb-false n 0 f) e })

  none_given : in_range (signed64 n) ≡ false → flag ≡ 1 → (o : Option ℤ) (r : List ℕ) → bit o ≡ flag → bound_right o ≡ true → drop at S ≡ eight_of o ++ r → ⊥
  unfolding eight_of bound_right
  none_given z e none r b i f = omega arith
  none_given z e (some y) r b i f =
      let k = w.fits in
      let a = (number_same 8 n (unsigned64 y) w.fits (unsigned_fits y (range_inside y i)) (word_at bytes h w) f).0 in
      let c : signed64 n ≡ y = unsigned_same (signed64 n) y (signed_inside n (omega arith)) (range_inside y i) (unsigned_signed n (omega arith) ∙ a) in
      true≢false (sym i ∙ ap in_range (sym c) ∙ z)

  pub bound_given : flag ≡ 1 → (b : Bool) → in_range (signed64 n) ≡ b → IsBound S at flag b
  unfolding eight_of bound_right
  bound_given e true f =
      let k = w.fits in
      bound (record { bound = some (signed64 n); is = word_at bytes h w ∙ ap (λ o. little_endian 8 o ++ drop (at + 8) S) (sym (unsigned_signed n (omega arith))); right = f; given = sym e })
  bound_given e false f = no_bound (record { none = none_given f e })

-- what a test of a bound tells
pub bound_of : {S : List ℕ} {at flag : ℕ} {b : Bool} → IsBound S at flag b → b ≡ true → BoundAt S at flag
bound_of (bound x) e = x
bound_of (no_bound x) e = absurd (false≢true e)

pub no_bound_of : {S : List ℕ} {at flag : ℕ} {b : Bool} → IsBound S at flag b → b ≡ false → NoBound S at flag
no_bound_of (bound x) e = absurd (true≢false e)
no_bound_of (no_bound x) e = x

-- ---- three bounds

-- the three numbers of the flags
pub flag_bits : (b : Bounds) → (flags b ≤ 7) × (bit b.start ≡ flags b % 2) × (bit b.stop ≡ flags b / 2 % 2) × (bit b.step ≡ flags b / 4)
flag_bits b =
    let e = flags_bits b in
    let x = bit_low b.start in
    let y = bit_low b.stop in
    let z = bit_low b.step in
    (omega arith, omega arith, omega arith, omega arith)

-- a slice in its four pieces
record InSlice (S : List ℕ) (at : ℕ) (b : Bounds) (r : List ℕ) : Type 0 where
  flag : drop at S ≡ flags b ∷ (eight_of b.start ++ (eight_of b.stop ++ (eight_of b.step ++ r)))
  one : bound_right b.start ≡ true
  two : bound_right b.stop ≡ true
  three : bound_right b.step ≡ true

in_slice : {room at p : ℕ} {S l r m : List ℕ} {b : Bounds} → Spelt slices room (drop at S) l p b r m → InSlice S at b r
in_slice {r = r} {b = b} u =
    let y = and_right (bound_right b.start) (bound_right b.stop && bound_right b.step) u.right in
    record {
      flag = u.plan ∙ ap (λ c. flags b ∷ c) (append_three (eight_of b.start) (eight_of b.stop) (eight_of b.step) r);
      one = and_left (bound_right b.start) (bound_right b.stop && bound_right b.step) u.right;
      two = and_left (bound_right b.stop) (bound_right b.step) y;
      three = and_right (bound_right b.stop) (bound_right b.step) y;
    }

module _ {S : List ℕ} {at : ℕ} where
  pub slice_short : {p : ℕ} → length S - at < 25 → AnyPool slices S at p None
  slice_short h = record {
    any = λ L room q. stop (record {
      none = λ b r m u.
          let a = plan_left u in
          let x = bound_length b.start in
          let y = bound_length b.stop in
          let z = bound_length b.step in
          let e = length-append (eight_of b.start) (eight_of b.stop ++ eight_of b.step) in
          let f = length-append (eight_of b.stop) (eight_of b.step) in
          let c = length-drop at S in
          omega arith;
    });
  }

  module _ (h : 25 ≤ length S - at) where
    -- the flags that stand there, and what stands behind them
    flags_here : {b : Bounds} {r : List ℕ} → InSlice S at b r → (get_or S at 0 ≡ flags b) × (drop (at + 1) S ≡ eight_of b.start ++ (eight_of b.stop ++ (eight_of b.step ++ r)))
    flags_here u =
        let a = drop_at S at (omega arith) in
        let f = u.flag in
        ((cc), same_tail a f)

    pub slice_flags : {p : ℕ} → 7 < get_or S at 0 → AnyPool slices S at p None
    slice_flags g = record { any = λ L room q. stop (record { none = λ b r m u. let e = (flags_here (in_slice u)).0 in let f = (flag_bits b).0 in omega arith }) }

    pub slice_start_lem : {p : ℕ} → NoBound S (at + 1) (get_or S at 0 % 2) → AnyPool slices S at p None
    slice_start_lem n = record {
      any = λ L room q. stop (record {
        none = λ b r m u.
            let v = in_slice u in
            let e = flags_here v in
            n.none b.start _ ((flag_bits b).1 ∙ ap (λ k. k % 2) (sym e.0)) v.one e.1;
      });
    }

    module _ (x : BoundAt S (at + 1) (get_or S at 0 % 2)) where
      stop_here : {b : Bounds} {r : List ℕ} → InSlice S at b r → (x.bound ≡ b.start) × (drop (at + 9) S ≡ eight_of b.stop ++ (eight_of b.step ++ r))
      stop_here {b} v =
          let e = flags_here v in
          let c : at + 1 + 8 ≡ at + 9 = omega arith in
          bound_same x.bound b.start (x.given ∙ ap (λ k. k % 2) e.0 ∙ sym (flag_bits b).1) x.right v.one (x.is ∙ ap (λ k. eight_of x.bound ++ drop k S) c) e.1

      pub slice_stop_lem : {p : ℕ} → NoBound S (at + 9) (get_or S at 0 / 2 % 2) → AnyPool slices S at p None
      slice_stop_lem n = record {
        any = λ L room q. stop (record {
          none = λ b r m u.
              let v = in_slice u in
              n.none b.stop _ ((flag_bits b).2 ∙ ap (λ k. k / 2 % 2) (sym (flags_here v).0)) v.two (stop_here v).1;
        });
      }

      module _ (y : BoundAt S (at + 9) (get_or S at 0 / 2 % 2)) where
        step_here : {b : Bounds} {r : List ℕ} → InSlice S at b r → drop (at + 17) S ≡ eight_of b.step ++ r
        step_here {b} v =
            let c : at + 9 + 8 ≡ at + 17 = omega arith in
            (bound_same y.bound b.stop (y.given ∙ ap (λ k. k / 2 % 2) (flags_here v).0 ∙ sym (flag_bits b).2) y.right v.two (y.is ∙ ap (λ k. eight_of y.bound ++ drop k S) c) (stop_here v).1).1

        pub slice_step_lem : {p : ℕ} → NoBound S (at + 17) (get_or S at 0 / 4) → AnyPool slices S at p None
        slice_step_lem n = record {
          any = λ L room q. stop (record {
            none = λ b r m u.
                let v = in_slice u in
                n.none b.step _ ((flag_bits b).3 ∙ ap (λ k. k / 4) (sym (flags_here v).0)) v.three (step_here v);
          });
        }

        pub slice_found : (p : ℕ) → get_or S at 0 ≤ 7 → BoundAt S (at + 17) (get_or S at 0 / 4) → AnyPool slices S at p (Some (record { at = at + 25; p = p; h = 0; sort = 0 }))
        slice_found p l z = record {
          any = λ L room q.
              let b : Bounds = record { start = x.bound; stop = y.bound; step = z.bound } in
              let c1 : at + 1 + 8 ≡ at + 9 = omega arith in
              let c2 : at + 9 + 8 ≡ at + 17 = omega arith in
              let c3 : at + 17 + 8 ≡ at + 25 = omega arith in
              let g1 = x.given in
              let g2 = y.given in
              let g3 = z.given in
              let fb = flags_bits b in
              let f : get_or S at 0 ≡ flags b = omega arith in
              next {g = record { at = at + 25; p = p; h = 0; sort = 0 }} (record {
                form = b;
                spelt = record {
                  plan = drop_at S at (omega arith) ∙ ap (λ k. k ∷ drop (at + 1) S) f ∙ ap (λ k. flags b ∷ k)
                      (x.is ∙ ap (λ k. eight_of x.bound ++ drop k S) c1 ∙ ap (λ k. eight_of x.bound ++ k)
                      (y.is ∙ ap (λ k. eight_of y.bound ++ drop k S) c2 ∙ ap (λ k. eight_of y.bound ++ k)
                      (z.is ∙ ap (λ k. eight_of z.bound ++ drop k S) c3))
                      ∙ sym (append_three (eight_of x.bound) (eight_of y.bound) (eight_of z.bound) (drop (at + 25) S)));
                  pool = refl;
                  right = both_true x.right (both_true y.right z.right);
                  low = omega arith;
                  may = refl;
                };
                from = omega arith;
                to = omega arith;
                grown = omega arith;
                held = q;
                nest = refl;
                sort = refl;
              });
        }
