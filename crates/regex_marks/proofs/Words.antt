-- A pass in one word, a place that is none behind the end, and two parts by the word before them. Assumes nothing.
use mathlib.Core.Path.{◌≡◌, refl, ap, sym, ◌∙◌, subst}
use mathlib.Core.Bool.{Bool, true, false, cond}
use mathlib.Core.List.{List}
use Prim.Native.Nat.{ℕ, ◌+◌, ◌*◌, ◌/◌, ◌%◌, ◌≤◌, ◌<◌, ◌^◌, min}
use native.Mathlib.Omega.{arith}
use borrow.Author.Tests.{eqb-true, eqb-false}
use lib.Dec.{eqb}
use lib.ListN.{length, drop}
use Rattle.regex_code.specs.Skips.{Skips, SkipsClass, drop_min}
use Rattle.regex_marks.specs.declared.passes.Pass.{Pass}
use Rattle.regex_marks.specs.Passes.{flag_of, pass_of, enter_of, chain_of, fork_of, second_of, joined_of}
use Rattle.regex_marks.specs.Moves.{Fits, Shifted, Copied, Endless, ShiftedBy, CopiedBy, EndlessBy}
use Rattle.regex_marks.proofs.Laws.{shift_then, shift_or}
use Rattle.regex_marks.specs.Runs.{Weighs, Capped}
use Rattle.regex_marks.proofs.Runs.{weigh_then, weigh_or}
use Rattle.regex_code.specs.Flat.{Word}

flag_few : (b : Bool) → flag_of b ≤ 1
flag_few true = omega arith
flag_few false = omega arith

flag_back : (b : Bool) → eqb (flag_of b) 1 ≡ b
flag_back true = refl
flag_back false = refl

-- what is packed comes back
pub packed :
    (s : Pass) {e v w : ℕ} → e ≡ flag_of s.empty → v ≡ flag_of s.was → w ≡ flag_of s.now → s.size < 2 ^ 16
    → pass_of ((s.next * 65536 + s.size) * 8 + e * 4 + v * 2 + w) ≡ s
packed s {e} {v} {w} p q r h =
    let i = flag_few s.empty in
    let j = flag_few s.was in
    let k = flag_few s.now in
    let a : ((s.next * 65536 + s.size) * 8 + e * 4 + v * 2 + w) / 524288 ≡ s.next = omega arith in
    let b : ((s.next * 65536 + s.size) * 8 + e * 4 + v * 2 + w) / 8 % 65536 ≡ s.size = omega arith in
    let c : ((s.next * 65536 + s.size) * 8 + e * 4 + v * 2 + w) / 4 % 2 ≡ e = omega arith in
    let d : ((s.next * 65536 + s.size) * 8 + e * 4 + v * 2 + w) / 2 % 2 ≡ v = omega arith in
    let f : ((s.next * 65536 + s.size) * 8 + e * 4 + v * 2 + w) % 2 ≡ w = omega arith in
    rw (a, b, c, d, f, p, q, r, flag_back s.empty, flag_back s.was, flag_back s.now)

-- the same pass
pub shifted_by :
    {s : List ℕ} {at : ℕ} {m : Bool} {c b : ℕ} {ms ms' : List ℕ} {t u : Pass} → t ≡ u → ShiftedBy s at m c b ms ms' u
    → ShiftedBy s at m c b ms ms' t
shifted_by {s} {at} {m} {c} {b} {ms} {ms'} e p = subst (λ k. ShiftedBy s at m c b ms ms' k) (sym e) p

pub copied_by :
    {s : List ℕ} {at : ℕ} {m : Bool} {c b lo hi : ℕ} {ms ms' : List ℕ} {t u : Pass} → t ≡ u → CopiedBy s at m c b lo hi ms ms' u
    → CopiedBy s at m c b lo hi ms ms' t
copied_by {s} {at} {m} {c} {b} {lo} {hi} {ms} {ms'} e p = subst (λ k. CopiedBy s at m c b lo hi ms ms' k) (sym e) p

pub endless_by :
    {s : List ℕ} {at : ℕ} {m : Bool} {c b lo : ℕ} {ms ms' : List ℕ} {t u : Pass} → t ≡ u → EndlessBy s at m c b lo ms ms' u
    → EndlessBy s at m c b lo ms ms' t
endless_by {s} {at} {m} {c} {b} {lo} {ms} {ms'} e p = subst (λ k. EndlessBy s at m c b lo ms ms' k) (sym e) p

-- what goes into one word
pub shifted_fits :
    {s : List ℕ} {at : ℕ} {m : Bool} {c b : ℕ} {ms ms' : List ℕ} {n z : ℕ} {e v w : Bool} → Fits s at ms b
    → Shifted s at m c b ms ms' n z e v w → (n < 2 ^ 33) × (z < 2 ^ 16)
shifted_fits f p = (omega (arith, f.words, p.to), omega (arith, f.few, p.fits))

pub copied_fits :
    {s : List ℕ} {at : ℕ} {m : Bool} {c b lo hi : ℕ} {ms ms' : List ℕ} {n z : ℕ} {e v w : Bool} → Fits s at ms b
    → Copied s at m c b lo hi ms ms' n z e v w → (n < 2 ^ 33) × (z < 2 ^ 16)
copied_fits f p = (omega (arith, f.words, p.to), omega (arith, f.few, p.fits))

pub endless_fits :
    {s : List ℕ} {at : ℕ} {m : Bool} {c b lo : ℕ} {ms ms' : List ℕ} {n z : ℕ} {e v w : Bool} → Fits s at ms b
    → Endless s at m c b lo ms ms' n z e v w → (n < 2 ^ 33) × (z < 2 ^ 16)
endless_fits f p = (omega (arith, f.words, p.to), omega (arith, f.few, p.fits))

-- what the part behind a first one asks
pub next_fits :
    {s : List ℕ} {at i : ℕ} {m : Bool} {c b : ℕ} {ms ms' : List ℕ} {n z : ℕ} {e v w : Bool} → Fits s i ms b
    → Shifted s at m c b ms ms' n z e v w → Fits s n ms' (b + z)
next_fits f p =
    record { place = p.to; words = f.words; room = omega (arith, p.fits, p.long); few = omega (arith, f.few, p.long) }

-- .. and the same part once more
pub again_fits :
    {s : List ℕ} {at i : ℕ} {m : Bool} {c b : ℕ} {ms ms' : List ℕ} {n z : ℕ} {e v w : Bool} → Fits s i ms b
    → Shifted s at m c b ms ms' n z e v w → Fits s i ms' (b + z)
again_fits f p =
    record { place = f.place; words = f.words; room = omega (arith, p.fits, p.long); few = omega (arith, f.few, p.long) }

pub clip_class : {s : List ℕ} {at n r : ℕ} → at < length s → SkipsClass s at n → r ≡ min n (length s) → SkipsClass s at r × (r ≤ length s)
clip_class {s} {at} {n} {r} h k e = (
  record { from = omega (arith, k.from); rest = λ comp gs l q. ap (λ i. drop i s) e ∙ drop_min s n ∙ k.rest comp gs l q },
  omega arith,
)

pub clip_skip : {s : List ℕ} {at n r : ℕ} → at ≤ length s → Skips s at n → r ≡ min n (length s) → Skips s at r × (r ≤ length s)
clip_skip {s} {at} {n} {r} h k e = (
  record { from = omega (arith, k.from); rest = λ x l q. ap (λ i. drop i s) e ∙ drop_min s n ∙ k.rest x l q },
  omega arith,
)

-- two parts behind their word
pub shift_two :
    {s : List ℕ} {m : Bool} {c b : ℕ} {ms : List ℕ} {at k : ℕ} {ms1 ms2 : List ℕ} {m2 : Bool} {t u : Pass} → Fits s at ms b
    → Word s at k → (2 ≤ k) × (k ≤ 3) → ShiftedBy s (at + 1) m c b ms ms1 t → ShiftedBy s t.next m2 c (b + t.size) ms1 ms2 u
    → m2 ≡ second_of k m t → ShiftedBy s at m c b ms ms2 (joined_of k t u)
shift_two {s} {m} {c} {b} {ms} {at} {k} {ms1} {ms2} {m2} {t} {u} f d h p q e = go (eqb k 2) refl
  where
    go : (i : Bool) → eqb k 2 ≡ i → ShiftedBy s at m c b ms ms2 (joined_of k t u)
    go true o =
        subst (λ i. ShiftedBy s at m c b ms ms2 (cond i (chain_of t u) (fork_of t u))) (sym o)
        (shift_then s m c b ms f.room at d.here (d.is ∙ eqb-true k 2 o) p q (e ∙ ap (λ i. cond i (enter_of m t) m) o))
    go false o =
        let z : k ≡ 3 = omega (arith, eqb-false k 2 o) in
        subst (λ i. ShiftedBy s at m c b ms ms2 (cond i (chain_of t u) (fork_of t u))) (sym o)
        (shift_or s m c b ms f.room at d.here (d.is ∙ z) p q (e ∙ ap (λ i. cond i (enter_of m t) m) o))

-- the same of their weights
pub weigh_two :
    {s : List ℕ} {at k cap n1 n2 z1 z2 n : ℕ} → Word s at k → (2 ≤ k) × (k ≤ 3) → Weighs s (at + 1) cap n1 z1 → Weighs s n1 cap n2 z2
    → Capped (z1 + z2) cap n → Weighs s at cap n2 n
weigh_two {s} {at} {k} {cap} {n1} {n2} {z1} {z2} {n} d h p q c = go (eqb k 2) refl
  where
    go : (i : Bool) → eqb k 2 ≡ i → Weighs s at cap n2 n
    go true o = weigh_then s cap at d.here p q c (d.is ∙ eqb-true k 2 o)
    go false o =
        let z : k ≡ 3 = omega (arith, eqb-false k 2 o) in
        weigh_or s cap at d.here p q c (d.is ∙ z)
