-- The words of the search for a member, and its laws. Assumes nothing.
use Rattle.std.specs.Prelude.{ℕ, zero, suc, ◌+◌, ◌-◌, ◌≤◌, ◌<◌, Bool, true, false, ◌≡◌, refl, List, length, Option as Maybe, Some, None}
use Rattle.std.proofs.Common.{arith, sym, ap, ◌∙◌, subst}
use Rattle.definition.specs.Bytes.{part, same_bytes}
use Rattle.definition.specs.Tables.{key_bytes}
use Rattle.std.proofs.Math.Option.{Option, none, some}
use Rattle.definition.specs.Values.{Json, lookup}
use Rattle.definition.specs.Tables.{node_count, node_at, key_start, key_length}
use Rattle.table_laws.specs.Nodes.{kids, lookup_first, lookup_next, lookup_none}

-- c nodes from j on are nodes of the table, and their keys lie inside the text
pub record Members (S X : List ℕ) (j c : ℕ) : Type 0 where
  pub nodes : (k : ℕ) → k < c → j + k < node_count S
  pub keys : (k : ℕ) → k < c → key_start S (j + k) + key_length S (j + k) ≤ length X

abbrev pub member_of : List ℕ → List ℕ → Maybe ℕ → Option Json
member_of S X (Some m) = some (node_at S X m)
member_of S X None = none

abbrev pub Between : ℕ → ℕ → Maybe ℕ → Type 0
Between j c (Some m) = (j ≤ m) × (m < j + c)
Between j c None = Unit {0}

-- r is the member of the name k among c nodes from j on
pub record Looked (S X : List ℕ) (j c : ℕ) (k : List ℕ) (r : Maybe ℕ) : Type 0 where
  pub is : lookup k (kids S X j c) ≡ member_of S X r
  pub inside : Between j c r

-- the same name, read in another way
pub looked_as : {S X : List ℕ} {j c : ℕ} {k l : List ℕ} {r : Maybe ℕ} → k ≡ l → Looked S X j c k r → Looked S X j c l r
looked_as {S} {X} {j} {c} {k} {l} {r} e w = subst (λ (z : List ℕ). Looked S X j c z r) e w

-- a key that is read by its start and its length
pub key_same : (S X k : List ℕ) (m a n : ℕ) (r : Bool) → a ≡ key_start S m → n ≡ key_length S m → r ≡ same_bytes (part X a n) k → r ≡ same_bytes (key_bytes S X m) k
key_same S X k m a n r p q e = e ∙ ap (λ (z : ℕ). same_bytes (part X z n) k) p ∙ ap (λ (z : ℕ). same_bytes (part X (key_start S m) z) k) q

-- ---- the search, member by member: what is left gives the whole

module _ (S X k : List ℕ) (j c : ℕ) where
  pub lookup_start : lookup k (kids S X (j + 0) (c - 0)) ≡ lookup k (kids S X j c)
  lookup_start =
      let a : j + 0 ≡ j = omega arith in
      let b : c - 0 ≡ c = omega arith in
      rw (a, b)

  module _ (i : ℕ) (w : lookup k (kids S X (j + i) (c - i)) ≡ lookup k (kids S X j c)) where
    pub lookup_found : i < c → (r : Bool) → r ≡ same_bytes (key_bytes S X (j + i)) k → r ≡ true → Looked S X j c k (Some (j + i))
    lookup_found l r e t = record { is = sym w ∙ lookup_first S X k (j + i) (c - i) (omega arith) (sym e ∙ t); inside = (omega arith, omega arith) }

    pub lookup_step : i < c → (r : Bool) → r ≡ same_bytes (key_bytes S X (j + i)) k → r ≡ false → lookup k (kids S X (j + (i + 1)) (c - (i + 1))) ≡ lookup k (kids S X j c)
    lookup_step l r e t =
        let x : j + (i + 1) ≡ j + i + 1 = omega arith in
        let y : c - (i + 1) ≡ c - i - 1 = omega arith in
        ap (λ (z : ℕ). lookup k (kids S X z (c - (i + 1)))) x ∙ ap (λ (z : ℕ). lookup k (kids S X (j + i + 1) z)) y ∙ lookup_next S X k (j + i) (c - i) (omega arith) (sym e ∙ t) ∙ w

    pub lookup_end : c ≤ i → Looked S X j c k None
    lookup_end l = record { is = sym w ∙ lookup_none S X k (j + i) (c - i) (omega arith); inside = tt }

  -- where the members before place n have other names, what is left from there on gives the whole
  pub lookup_passed : (n : ℕ) → n ≤ c → ((i : ℕ) → i < n → same_bytes (key_bytes S X (j + i)) k ≡ false) → lookup k (kids S X (j + n) (c - n)) ≡ lookup k (kids S X j c)
  lookup_passed zero l h = lookup_start
  lookup_passed (suc n) l h =
      let e : suc n ≡ n + 1 = omega arith in
      rw e (lookup_step n (lookup_passed n (omega arith) (λ i b. h i (omega arith))) (omega arith) false (sym (h n (omega arith))) refl)
