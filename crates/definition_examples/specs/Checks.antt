-- The two checks of a table (document 02, W6), each alone, and the pair, on small tables: rows under one computed test.
use Rattle.std.specs.Prelude.{ℕ, ◌≡◌, refl, List, [], ◌∷◌, Bool, true, cond, ◌&&◌, eqb}
use Rattle.definition.specs.TableOutcomes.{TableOutcome, records_outcome, texts_outcome, table_outcome}
use Rattle.definition_examples.specs.Computes.{computes}
use Rattle.definition_examples.specs.Texts.{bytes}
use Rattle.definition_examples.specs.Sample.{node, under, table, changed, sample_table, sample_text}

-- a table and its text; the refusal of the records with its node; and that of the texts and keys with its node
pub data Judged : Type 0 where
  judged : List ℕ → List ℕ → ℕ → ℕ → ℕ → ℕ → Judged

abbrev says : TableOutcome → ℕ → ℕ → Bool
says o n i = eqb o.refusal n && eqb o.node i

-- each check answers so, and the pair as the first, or where that accepts as the second
abbrev pub holds : Judged → Bool
holds (judged T X n i m j) = says (records_outcome T X) n i && (says (texts_outcome T X) m j && says (table_outcome T X) (cond (eqb n 0) m n) (cond (eqb n 0) j i))

abbrev pub all_hold : List Judged → Bool
all_hold [] = true
all_hold (x ∷ xs) = holds x && all_hold xs

-- a map that claims a range, and two nulls whose keys are both "a"
abbrev claims : ℕ → ℕ → List ℕ
claims low high = table (node 7 0 0 0 low high ∷ node 0 1 0 1 0 0 ∷ node 0 1 0 1 0 0 ∷ [])

abbrev pub checks : List Judged
checks =
    judged sample_table sample_text 0 0 0 0 ∷
    judged [] [] 9 0 9 0 ∷
    -- all of 10 before any of 17: a bad key at node 1, a bad depth at node 2
    judged (table (node 7 0 0 0 1 2 ∷ node 0 1 0 9 0 0 ∷ node 0 5 0 1 0 0 ∷ [])) (bytes "ab") 10 2 17 1 ∷
    -- a float that is not finite, which the check of the texts does not look at
    judged (changed 118 0xF0 (changed 119 0x7F sample_table)) sample_text 10 4 0 0 ∷
    -- two equal keys: the later member is at fault
    judged (claims 1 2) (bytes "ab") 0 0 17 2 ∷
    -- first child 1 and count 4,294,967,295: the members are 1 and 2
    judged (claims 1 4294967295) (bytes "ab") 10 0 17 2 ∷
    -- first child 9: no members
    judged (claims 9 2) (bytes "ab") 10 0 0 0 ∷
    -- first child 2: one member
    judged (claims 2 1) (bytes "ab") 10 0 0 0 ∷
    -- first child 0 and count 1: node 0 is a member of itself, and its key passes the end of the text
    judged (node 7 0 0 3 0 1) (bytes "ab") 10 0 17 0 ∷
    -- a map behind its members
    judged (table (node 0 0 0 1 0 0 ∷ node 0 0 0 1 0 0 ∷ node 7 0 0 0 0 2 ∷ [])) (bytes "ab") 10 0 17 1 ∷
    -- ranges that overlap: nodes 2 and 3 under map 0, and 1, 2 and 3 under map 1, where 3 has the key of 1
    judged (table (node 7 0 0 0 2 2 ∷ node 7 0 0 1 1 3 ∷ node 0 1 1 1 0 0 ∷ node 0 1 0 1 0 0 ∷ [])) (bytes "ab") 10 0 17 3 ∷
    -- the range of a list, and that of a kind above 7: nothing is asked of keys
    judged (table (node 6 0 0 0 1 2 ∷ node 0 1 0 9 0 0 ∷ node 0 1 0 9 0 0 ∷ [])) (bytes "ab") 10 1 0 0 ∷
    judged (table (node 8 0 0 0 1 2 ∷ node 0 1 0 9 0 0 ∷ node 0 1 0 9 0 0 ∷ [])) (bytes "ab") 10 0 0 0 ∷
    -- a key outside at 2 and a text outside at 3; a text and a key that cut a character
    judged (table (node 7 0 0 0 1 3 ∷ node 0 1 0 1 0 0 ∷ node 0 1 0 9 0 0 ∷ node 5 1 1 1 0 9 ∷ [])) (bytes "ab") 0 0 17 2 ∷
    judged (table (node 7 0 0 0 1 1 ∷ node 5 1 0 1 1 1 ∷ [])) (bytes "aé") 0 0 17 1 ∷
    judged (table (node 7 0 0 0 1 1 ∷ node 5 1 1 1 0 1 ∷ [])) (bytes "aé") 0 0 17 1 ∷
    -- the same key in two maps
    judged (table (node 6 0 0 0 1 2 ∷ node 7 1 0 0 3 1 ∷ node 7 1 0 0 4 1 ∷ under 1 (node 0 2 0 1 0 0) ∷ under 2 (node 0 2 0 1 0 0) ∷ [])) (bytes "a") 0 0 0 0 ∷
    []

pub checks_hold : all_hold checks ≡ true
unfolding computes
checks_hold = refl
