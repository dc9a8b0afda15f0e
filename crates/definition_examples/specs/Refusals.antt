-- Refusals 1 to 3, which look at the bytes of a query alone, in their order, and the bracket count's rule for quoted text. The theorem is in proofs/Refusals.
-- For 4 to 8 see NoTree, Points and Numbers.
use Rattle.std.specs.Prelude.{ℕ, suc, ◌≡◌, refl, List, [], ◌∷◌, ◌++◌, Bool, true, ◌&&◌, eqb, replicate}
use Rattle.std.proofs.Common.{subst, ◌∙◌, arith, eqb-true}
use Rattle.definition.specs.Selecting.{Reads, early, too_early}
use Rattle.definition.specs.Selecting.Reading.{refused}
use Rattle.definition_examples.specs.Computes.{computes}
use Rattle.definition_examples.specs.Texts.{bytes}
use Rattle.basics.specs.Bools.{and_left as left, and_right as right}

-- a query's bytes, and the first of refusals 1 to 3 that they meet, or 0
pub record Early : Type 0 where
  pub query : List ℕ
  pub number : ℕ

abbrev meets : List ℕ → ℕ → Early
meets s n = record { query = s; number = n }

abbrev all_meet : List Early → Bool
all_meet [] = true
all_meet (x ∷ xs) = eqb (early x.query) x.number && all_meet xs

-- n bytes `[`, and n bytes `(`
abbrev opened : ℕ → List ℕ
opened n = replicate n 0x5B

abbrev rounded : ℕ → List ℕ
rounded n = replicate n 0x28

abbrev pub rows : List Early
rows =
    -- "query over 4,096 bytes"
    meets (replicate 4097 0x24) 1 ∷
    meets (replicate 4096 0x24) 0 ∷
    meets (replicate 4097 0xFF) 1 ∷
    -- "query not UTF-8"
    meets (0xFF ∷ []) 2 ∷
    meets (0xFF ∷ opened 33) 2 ∷
    -- "32 open brackets pass, 33 are 3"
    meets (opened 33) 3 ∷
    meets (opened 32) 0 ∷
    meets (rounded 33) 3 ∷
    meets (rounded 32) 0 ∷
    meets (opened 16 ++ rounded 16) 0 ∷
    meets (opened 16 ++ rounded 17) 3 ∷
    -- at some moment, not at the end; closing brackets take one, never below 0
    meets (opened 33 ++ bytes "]]]]") 3 ∷
    meets (opened 32 ++ (bytes "]" ++ opened 1)) 0 ∷
    meets (opened 32 ++ (bytes ")" ++ opened 1)) 0 ∷
    meets (bytes "])" ++ opened 32) 0 ∷
    meets (bytes "])" ++ opened 33) 3 ∷
    -- quoted text is passed over, up to the next same quote
    meets (bytes "'" ++ opened 33) 0 ∷
    meets (bytes "\"" ++ opened 33) 0 ∷
    meets (bytes "''" ++ opened 33) 3 ∷
    meets (bytes "'\"'" ++ opened 33) 3 ∷
    meets (bytes "\"'" ++ opened 33) 0 ∷
    meets (bytes "'\"" ++ opened 33) 0 ∷
    meets (bytes "'['" ++ opened 32) 0 ∷
    -- a backslash in it and the byte after it are skipped; outside it is a byte like others
    meets (bytes "'\\'" ++ opened 33) 0 ∷
    meets (bytes "'\\\\'" ++ opened 33) 3 ∷
    meets (bytes "'\\['" ++ opened 32) 0 ∷
    meets (bytes "\\''" ++ opened 33) 3 ∷
    []

pub rows_meet : all_meet rows ≡ true
unfolding computes
rows_meet = refl

-- ---- what a row says: the query is refused by its number, or goes on to the grammar

abbrev pub Means : Early → Type 0
Means x = early x.query ≡ x.number × ((n : ℕ) → x.number ≡ suc n → Reads x.query (refused (suc n)))

abbrev pub AllMean : List Early → Type 0
AllMean [] = Unit {0}
AllMean (x ∷ xs) = Means x × AllMean xs

means : (x : Early) → early x.query ≡ x.number → Means x
means x e = (e, λ n h. subst (λ (m : ℕ). Reads x.query (refused m)) (e ∙ h) (too_early (λ z. omega (arith, e ∙ h, z))))

pub all_mean : (xs : List Early) → all_meet xs ≡ true → AllMean xs
all_mean [] e = tt
all_mean (x ∷ xs) e =
    let b = eqb (early x.query) x.number in
    (means x (eqb-true (early x.query) x.number (left b (all_meet xs) e)), all_mean xs (right b (all_meet xs) e))
