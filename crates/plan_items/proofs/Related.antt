-- The laws of the reader of what stands behind two values. Assumes nothing.
use Prim.Native.Nat.{ℕ, ◌+◌}
use native.Mathlib.Omega.{arith}
use mathlib.Core.Path.{◌≡◌, refl, sym, ap, ◌∙◌}
use mathlib.Core.List.{List, ◌∷◌, ◌++◌}
use borrow.Author.Tests.{ltb-true, lt-ltb}
use lib.ListN.{drop}
use Rattle.regex_definition.specs.Scope.{whole, part}
use Rattle.definition.specs.Plans.{operator_byte, scope_kind}
use Rattle.basics.specs.Lists.{differ, same_tail}
use Rattle.plan_laws.specs.Parts.{Spelt}
use Rattle.plan_laws.specs.Leaves.{smalls, operator_of, operator_low, operator_byte_lem}
use Rattle.plan_laws.specs.Relations.{Relation, compares, matches, relations}
use Rattle.plan_items.specs.Readings.{Kind, next, stop, AnyPool}
use Rattle.plan_items.specs.declared.Got.{Got}
use Rattle.std.specs.Prelude.{Option, Some, None}
use Rattle.plan_items.proofs.Words.{kind_at, kind_in_at, kind_not}
use Rattle.plan_items.proofs.Called.{Behind, behind}

-- a comparison is its operator behind 14
operator_behind : {room at p : ℕ} {S L : List ℕ} → drop at S ≡ 0x14 ∷ drop (at + 1) S → Behind (smalls 6 0) relations room S L at p
unfolding scope_kind
operator_behind {room} {at} {p} {S} {L} f = record { make = λ b. compares (operator_of b); there = there; back = back; pool = λ b. refl; nest = λ b. refl; sort = λ b. refl }
  where
    there : (b : ℕ) (r m : List ℕ) → Spelt (smalls 6 0) room (drop (at + 1) S) (drop p L) p b r m → Spelt relations room (drop at S) (drop p L) p (compares (operator_of b)) r m
    there b r m u =
        let e = operator_byte_lem b (ltb-true b 6 u.right) in
        record { plan = f ∙ ap (λ (l : List ℕ). 0x14 ∷ l) (u.plan ∙ ap (λ (c : ℕ). c ∷ r) (sym e)); pool = u.pool; right = refl; low = u.low; may = refl }

    back : (x : Relation) (r m : List ℕ) → Spelt relations room (drop at S) (drop p L) p x r m → (b : ℕ) × Spelt (smalls 6 0) room (drop (at + 1) S) (drop p L) p b r m
    back (compares o) r m u = (operator_byte o, record { plan = same_tail f u.plan; pool = u.pool; right = lt-ltb (operator_byte o) 6 (operator_low o); low = u.low; may = refl })
    back (matches whole) r m u = absurd (differ 0x1C 0x14 refl u.plan f)
    back (matches part) r m u = absurd (differ 0x1D 0x14 refl u.plan f)

module _ {S : List ℕ} {at p k : ℕ} (e : Kind S at k) where
  pub relation_compares : {r : Option Got} → k ≡ 0x14 → AnyPool (smalls 6 0) S (at + 1) p r → AnyPool relations S at p r
  relation_compares f a = record { any = λ L room q. behind (operator_behind (kind_at e f)) (a.any L room q) }

  -- match and search have no body
  pub relation_match : k ≡ 0x1C → AnyPool relations S at p (Some (record { at = at + 1; p = p; h = 0; sort = 1 }))
  unfolding scope_kind
  relation_match f = record {
    any = λ L room q.
        next {g = record { at = at + 1; p = p; h = 0; sort = 1 }} (record {
          form = matches whole;
          spelt = record { plan = kind_at e f; pool = refl; right = refl; low = omega arith; may = refl };
          from = omega arith;
          to = kind_in_at e f;
          grown = omega arith;
          held = q;
          nest = refl;
          sort = refl;
        });
  }

  pub relation_search : k ≡ 0x1D → AnyPool relations S at p (Some (record { at = at + 1; p = p; h = 0; sort = 1 }))
  unfolding scope_kind
  relation_search f = record {
    any = λ L room q.
        next {g = record { at = at + 1; p = p; h = 0; sort = 1 }} (record {
          form = matches part;
          spelt = record { plan = kind_at e f; pool = refl; right = refl; low = omega arith; may = refl };
          from = omega arith;
          to = kind_in_at e f;
          grown = omega arith;
          held = q;
          nest = refl;
          sort = refl;
        });
  }

  -- nothing else stands behind two values
  pub relation_none : (k ≡ 0x14 → ⊥) → (k ≡ 0x1C → ⊥) → (k ≡ 0x1D → ⊥) → AnyPool relations S at p None
  unfolding scope_kind
  relation_none a b c = record { any = λ L room q. stop (record { none = λ x r m u. go x r u.plan }) }
    where
      go : (x : Relation) (r : List ℕ) → drop at S ≡ relations.code x p ++ r → ⊥
      go (compares o) r f = kind_not e 0x14 a f
      go (matches whole) r f = kind_not e 0x1C b f
      go (matches part) r f = kind_not e 0x1D c f
