-- The limits that no table, plan or list of an example can reach, at their ends: stated over every input of such a size.
use Rattle.std.specs.Prelude.{ℕ, ◌*◌, ◌≤◌, ◌≡◌, refl, List, true, false, pos, length}
use Rattle.std.proofs.Common.{ap, arith}
use Rattle.std.proofs.Math.Bool.{and-true}
use Rattle.definition.specs.Values.{Json}
use Rattle.definition.specs.Tables.{kind_at, high_word, range_right, payload_record, bad_size}
use Rattle.definition.specs.Forms.{Query}
use Rattle.definition.specs.QueryForms.{is_form}
use Rattle.definition.specs.Compare.{Value}
use Rattle.definition.specs.Evaluation.{count_value}
use Rattle.definition.specs.Plans.{plan_of, pool_of}
use Rattle.definition.specs.Outcomes.{Translates, spelled, not_spelled, ChecksPlan, refusal_of}
use Rattle.definition.specs.Selecting.Reading.{form, refused}
use Rattle.basics.specs.Bools.{and_false}

-- ---- refusal 9: "over 65,535 nodes, or text over 16,777,216 bytes"

pub largest_table : (T X : List ℕ) → length T ≡ 24 * 65535 → length X ≡ 16777216 → bad_size T X ≡ false
unfolding bad_size
largest_table T X h k = rw (h, k) refl

pub table_too_large : (T X : List ℕ) → length T ≡ 24 * 65536 → bad_size T X ≡ true
unfolding bad_size
table_too_large T X h = rw h refl

pub text_too_large : (T X : List ℕ) → length T ≡ 24 → length X ≡ 16777217 → bad_size T X ≡ true
unfolding bad_size
text_too_large T X h k = rw (h, k) refl

-- ---- "A map has at most 1,024 members"; a list may have more

pub largest_map : (T : List ℕ) (i : ℕ) → kind_at T i ≡ 7 → high_word T i ≡ 1024 → payload_record T i ≡ range_right T i
unfolding payload_record
largest_map T i h k = rw (h, k) (and-true (range_right T i))

pub map_too_large : (T : List ℕ) (i : ℕ) → kind_at T i ≡ 7 → high_word T i ≡ 1025 → payload_record T i ≡ false
unfolding payload_record
map_too_large T i h k = rw (h, k) (and_false (range_right T i))

pub any_list : (T : List ℕ) (i : ℕ) → kind_at T i ≡ 6 → payload_record T i ≡ range_right T i
unfolding payload_record
any_list T i h = rw h refl

-- ---- refusal 11: "not the translation of a query form, or over 65,535 bytes"

pub largest_plan : (q : Query) → is_form q ≡ true → length (plan_of q) ≤ 65535 → length (pool_of q) ≤ 65535 → ChecksPlan (plan_of q) (pool_of q) 0
unfolding refusal_of
largest_plan q h a b = record { reading = form q; reads = spelled q (record { is_query = h; is_plan = refl; is_pool = refl; plan_fits = a; pool_fits = b }); is = refl }

-- what is translated is all of this
pub record Fits (q : Query) (plan pool : List ℕ) : Type 0 where
  pub is_query : is_form q ≡ true
  pub is_plan : plan_of q ≡ plan
  pub is_pool : pool_of q ≡ pool
  pub plan_fits : length plan ≤ 65535
  pub pool_fits : length pool ≤ 65535

pub translates_fits : (q : Query) (plan pool : List ℕ) → Translates q plan pool → Fits q plan pool
translates_fits q plan pool t = record { is_query = t.is_query; is_plan = t.is_plan; is_pool = t.is_pool; plan_fits = t.plan_fits; pool_fits = t.pool_fits }

pub no_plan : (plan pool : List ℕ) → ((q : Query) → Translates q plan pool → ⊥) → ChecksPlan plan pool 11
unfolding refusal_of
no_plan plan pool h = record { reading = refused 11; reads = not_spelled h; is = refl }

-- ---- "count stops at 2^53-1"

pub count_below : (ns : List Json) → length ns ≤ 9007199254740991 → count_value ns ≡ Value.integer (pos (length ns))
unfolding count_value
count_below ns h = ap (λ (n : ℕ). Value.integer (pos n)) (omega (arith, h))

pub count_stops : (ns : List Json) → 9007199254740991 ≤ length ns → count_value ns ≡ Value.integer (pos 9007199254740991)
unfolding count_value
count_stops ns h = ap (λ (n : ℕ). Value.integer (pos n)) (omega (arith, h))
