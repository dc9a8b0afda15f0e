-- The pass over the bytes of a plan, item by item; proofs/Meets goes over a form's whole plan with it. Assumes nothing.
use Rattle.std.specs.Prelude.{ℕ, zero, suc, ◌+◌, ◌-◌, ◌≤◌, ◌≡◌, refl, List, [], ◌∷◌, ◌++◌, cond, ℤ, length, drop}
use Rattle.std.proofs.Common.{sym, ap, ◌∙◌, append_assoc, arith, length-drop}
use Rattle.std.proofs.Math.Option.{Option, none, some}
use Rattle.definition.specs.Bytes.{little_endian, unsigned64}
use Rattle.regex_definition.specs.Scope.{Scope, whole, part}
use Rattle.definition.specs.Forms.{Literal, Start}
use Rattle.definition.specs.Forms.Literal.{null, boolean, integer, float, text}
use Rattle.definition.specs.Forms.Start.{root, current}
use Rattle.definition.specs.Plans.{two, pooled, start_kind, scope_kind, given, eight_of, code_slice, code_literal, framed}
use Rattle.tally_laws.specs.Items.{body_length, kinds_within, kinds_of}
use Rattle.tally_laws.specs.Forms.{start_item, literal_item, scope_item}

-- ---- the pass over bytes

-- more turns than bytes change nothing
pub turns_enough : (f g : ℕ) (s : List ℕ) → length s ≤ f → length s ≤ g → kinds_within f s ≡ kinds_within g s
unfolding kinds_within
turns_enough zero zero s a b = refl
turns_enough zero (suc g) [] a b = refl
turns_enough zero (suc g) (k ∷ s) a b = absurd (omega arith)
turns_enough (suc f) zero [] a b = refl
turns_enough (suc f) zero (k ∷ s) a b = absurd (omega arith)
turns_enough (suc f) (suc g) [] a b = refl
turns_enough (suc f) (suc g) (k ∷ s) a b =
    let e : length (drop (body_length k) s) ≡ length s - body_length k = length-drop (body_length k) s in
    ap (λ (l : List ℕ). k ∷ l) (turns_enough f g (drop (body_length k) s) (omega (arith, e)) (omega (arith, e)))

-- an item, and the items behind its body
item : (k : ℕ) (s : List ℕ) → kinds_of (k ∷ s) ≡ k ∷ kinds_of (drop (body_length k) s)
unfolding kinds_within
item k s =
    let e : length (drop (body_length k) s) ≡ length s - body_length k = length-drop (body_length k) s in
    ap (λ (l : List ℕ). k ∷ l) (turns_enough (length s) (length (drop (body_length k) s)) (drop (body_length k) s) (omega (arith, e)) (omega arith))

pub no_item : kinds_of [] ≡ []
unfolding kinds_within
no_item = refl

-- ---- items by the length of their bodies, with what follows

pub with_two : (k n : ℕ) (r : List ℕ) → body_length k ≡ 2 → kinds_of (k ∷ (two n ++ r)) ≡ k ∷ kinds_of r
unfolding little_endian
with_two k n r e = item k (two n ++ r) ∙ ap (λ (b : ℕ). k ∷ kinds_of (drop b (two n ++ r))) e

pub with_eight : (k n : ℕ) (r : List ℕ) → body_length k ≡ 8 → kinds_of (k ∷ (little_endian 8 n ++ r)) ≡ k ∷ kinds_of r
unfolding little_endian
with_eight k n r e = item k (little_endian 8 n ++ r) ∙ ap (λ (b : ℕ). k ∷ kinds_of (drop b (little_endian 8 n ++ r))) e

pub with_four : (k p : ℕ) (s r : List ℕ) → body_length k ≡ 4 → kinds_of (pooled k p s ++ r) ≡ k ∷ kinds_of r
unfolding little_endian pooled
with_four k p s r e = item k ((two p ++ two (length s)) ++ r) ∙ ap (λ (b : ℕ). k ∷ kinds_of (drop b ((two p ++ two (length s)) ++ r))) e

pub with_one : (k x : ℕ) (r : List ℕ) → body_length k ≡ 1 → kinds_of (k ∷ x ∷ r) ≡ k ∷ kinds_of r
with_one k x r e = item k (x ∷ r) ∙ ap (λ (b : ℕ). k ∷ kinds_of (drop b (x ∷ r))) e

pub with_none : (k : ℕ) (r : List ℕ) → body_length k ≡ 0 → kinds_of (k ∷ r) ≡ k ∷ kinds_of r
with_none k r e = item k r ∙ ap (λ (b : ℕ). k ∷ kinds_of (drop b r)) e

-- a slice's three numbers are 8 bytes each
drop_eight : (a : Option ℤ) (m : ℕ) (r : List ℕ) → drop (suc (suc (suc (suc (suc (suc (suc (suc m)))))))) (eight_of a ++ r) ≡ drop m r
unfolding eight_of little_endian
drop_eight none m r = refl
drop_eight (some z) m r = refl

pub with_slice : (a b c : Option ℤ) (r : List ℕ) → kinds_of (code_slice a b c ++ r) ≡ 0x07 ∷ kinds_of r
unfolding code_slice body_length
with_slice a b c r =
    item 0x07 ((given a 1 + given b 2 + given c 4) ∷ ((eight_of a ++ (eight_of b ++ eight_of c)) ++ r))
    ∙ ap (λ (s : List ℕ). 0x07 ∷ kinds_of s)
    (ap (drop 24) (append_assoc (eight_of a) (eight_of b ++ eight_of c) r ∙ ap (λ (s : List ℕ). eight_of a ++ s) (append_assoc (eight_of b) (eight_of c) r))
    ∙ drop_eight a 16 (eight_of b ++ (eight_of c ++ r)) ∙ drop_eight b 8 (eight_of c ++ r) ∙ drop_eight c 0 r)

-- ---- a literal, with what follows

pub literal_meets : (l : Literal) (p : ℕ) (r : List ℕ) → kinds_of (code_literal l p ++ r) ≡ literal_item l ∷ kinds_of r
unfolding code_literal literal_item body_length
literal_meets null p r = with_one 0x13 2 r refl
literal_meets (boolean b) p r = with_one 0x13 (cond b 1 0) r refl
literal_meets (integer z) p r = with_eight 0x10 (unsigned64 z) r refl
literal_meets (float b) p r = with_eight 0x11 b r refl
literal_meets (text s) p r = with_four 0x12 p s r refl

-- what is written behind a part, and the items of both
pub joins : (a b r k l : List ℕ) → kinds_of (a ++ (b ++ r)) ≡ k ++ kinds_of (b ++ r) → kinds_of (b ++ r) ≡ l ++ kinds_of r → kinds_of ((a ++ b) ++ r) ≡ (k ++ l) ++ kinds_of r
joins a b r k l e f = ap kinds_of (append_assoc a b r) ∙ e ∙ ap (λ (s : List ℕ). k ++ s) f ∙ sym (append_assoc k l (kinds_of r))

-- one item without a body behind a part
pub ends : (a r k : List ℕ) (x : ℕ) → body_length x ≡ 0 → ((s : List ℕ) → kinds_of (a ++ s) ≡ k ++ kinds_of s) → kinds_of ((a ++ x ∷ []) ++ r) ≡ (k ++ x ∷ []) ++ kinds_of r
ends a r k x e f = joins a (x ∷ []) r k (x ∷ []) (f (x ∷ r)) (with_none x r e)

-- a kind, a length and the code of that length
pub frames : (x : ℕ) (c r k : List ℕ) → body_length x ≡ 2 → kinds_of (c ++ r) ≡ k ++ kinds_of r → kinds_of (framed x c ++ r) ≡ x ∷ (k ++ kinds_of r)
unfolding little_endian
frames x c r k e f = with_two x (length c) (c ++ r) e ∙ ap (λ (s : List ℕ). x ∷ s) f

pub start_meets : (s : Start) (r : List ℕ) → kinds_of (start_kind s ∷ r) ≡ start_item s ∷ kinds_of r
unfolding start_kind start_item body_length
start_meets root r = with_none 0x01 r refl
start_meets current r = with_none 0x02 r refl

pub scope_meets : (c : Scope) (r : List ℕ) → kinds_of (scope_kind c ∷ r) ≡ scope_item c ∷ kinds_of r
unfolding scope_kind scope_item body_length
scope_meets whole r = with_none 0x1C r refl
scope_meets part r = with_none 0x1D r refl
