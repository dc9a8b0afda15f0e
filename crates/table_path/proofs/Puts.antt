-- Bytes that are put before those that are written already. Assumes nothing.
use Prim.Native.Nat.{ℕ, suc, ◌+◌, ◌-◌, ◌≤◌, ◌<◌}
use mathlib.Core.Path.{◌≡◌, refl, sym, ap, ◌∙◌, subst}
use mathlib.Core.List.{List, [], ◌∷◌, ◌++◌, append_assoc}
use lib.ListN.{length, length-append, length-set, drop, get_or, set}
use lib.Seq.{drop-cons, drop-set-add}
use native.Mathlib.Omega.{arith}
use Rattle.table_path.specs.Words.{Put, Room}

-- nothing is put
pub put_nothing : (B : List ℕ) (end : ℕ) → Put B end [] B end
put_nothing B end = record { same = refl; begins = omega arith; holds = refl }

set_here : (B : List ℕ) (at b : ℕ) → at < length B → drop at (set B at b) ≡ b ∷ drop (suc at) B
set_here B at b h =
    let z : at ≡ at + 0 = omega arith in
    ap (λ (k : ℕ). drop at (set B k b)) z
    ∙ drop-set-add at B 0 b
    ∙ ap (λ (l : List ℕ). set l 0 b) (drop-cons B at 0 h)

-- one byte
pub put_one : (B : List ℕ) (end b : ℕ) → Room B end 1 → Put B end (b ∷ []) (set B (end - 1) b) (end - 1)
put_one B end b r =
    let e = r.enough in
    let i = r.inside in
    let s : suc (end - 1) ≡ end = omega arith in
    record { same = length-set B (end - 1) b; begins = omega arith; holds = set_here B (end - 1) b (omega arith) ∙ ap (λ (k : ℕ). b ∷ drop k B) s }

-- one text before another
pub put_before : {B₀ B C s t : List ℕ} {end at from : ℕ} → Put B₀ end s B at → Put B at t C from → Put B₀ end (t ++ s) C from
put_before {B₀} {B} {C} {s} {t} {end} {at} {from} p q =
    let b = p.begins in
    let c = q.begins in
    record {
      same = q.same ∙ p.same;
      begins = rw (length-append t s) (omega arith);
      holds = q.holds ∙ ap (λ (x : List ℕ). t ++ x) p.holds ∙ sym (append_assoc t s (drop end B₀));
    }

-- the room that is left before a text that was put
pub room_left : {B₀ B s : List ℕ} {end at : ℕ} (n : ℕ) → Put B₀ end s B at → end ≤ length B₀ → n + length s ≤ end → Room B at n
room_left n p h l =
    let b = p.begins in
    let z = p.same in
    record { enough = omega arith; inside = omega arith }

-- the same text, said otherwise
pub put_as : {B₀ B s t : List ℕ} {end at : ℕ} → s ≡ t → Put B₀ end s B at → Put B₀ end t B at
put_as {B₀} {B} {s} {t} {end} {at} e p = subst (λ (x : List ℕ). Put B₀ end x B at) e p

pub room_as : {B : List ℕ} {end m n : ℕ} → m ≡ n → Room B end m → Room B end n
room_as {B} {end} e r = subst (Room B end) e r
