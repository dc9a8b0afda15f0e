-- A text that is read from state to state. Assumes nothing: these are definitions.
use Rattle.std.specs.Prelude.{◌≡◌, Bool, List, [], ◌++◌, ℕ, ◌+◌, ◌*◌, ◌≤◌, ◌<◌, length, get_or}
use Rattle.std.proofs.Math.Seq.{slice}
use Rattle.definition.specs.Utf8.{encode_all}
use Rattle.regex_definition.specs.Words.{Told}
use Rattle.regex_definition.specs.Regexp.{Regexp, Describes}
use Rattle.regex_code.specs.Flat.{flat}
use Rattle.regex_marks.specs.Marks.{Rest, Good}
use Rattle.regex_states.specs.States.{After, Leads}
use Rattle.regex_states.specs.Ready.{marks_of, edge_of, width, count, Tables}

-- state k, with the marks ms, has read the characters whose bytes stand before i
pub record Along (x : Regexp) (cs t : List ℕ) (i k : ℕ) (ms : List ℕ) : Type 0 where
  pub done : List ℕ
  pub left : List ℕ
  pub eq : cs ≡ done ++ left
  pub rest : slice i (length t) t ≡ encode_all left
  pub forth : (w : List ℕ) → After x k ms w → Describes x (done ++ w)
  pub back : (w : List ℕ) → Describes x (done ++ w) → After x k ms w

-- .. for each expression that the code is of, and each text that the bytes are of
pub record Reached (s t ss : List ℕ) (i k : ℕ) : Type 0 where
  pub of : (x : Regexp) (cs : List ℕ) → s ≡ flat x [] → t ≡ encode_all cs → Along x cs t i k (marks_of ss k)

-- state k is in use, and its edges stay among the states in use
pub record Inside (es : List ℕ) (k : ℕ) : Type 0 where
  pub count : ℕ
  pub here : (1 ≤ k) × (k < count)
  pub fits : count * 128 ≤ length es
  pub inside : (k c : ℕ) → 1 ≤ k → k < count → c < 128 → edge_of es k c < count

-- known edges lead over the bytes of t from i to j, and from state k to state m
pub data Trail (es t : List ℕ) (i k : ℕ) : ℕ → ℕ → Type 0 where
  start : Trail es t i k i k
  more :
      {j m : ℕ} → Trail es t i k j m → j < length t → get_or t j 0 < 128 → (edge_of es m (get_or t j 0) ≡ 0 → ⊥)
      → Trail es t i k (j + 1) (edge_of es m (get_or t j 0))

pub record Followed (es t : List ℕ) (i k j m : ℕ) : Type 0 where
  pub from : i ≤ j
  pub to : j ≤ length t
  pub trail : Trail es t i k j m

-- a step from state k over c: to state r, or if that is 0 to the marks ms
pub record Stepped (s es ss : List ℕ) (k c : ℕ) (es' ss' ms : List ℕ) (r : ℕ) (b : Bool) : Type 0 where
  pub tables : Tables s es' ss'
  pub wide : width ss' ≡ width ss
  pub long : length ms ≡ width ss
  pub state : (r ≡ 0 → ⊥) → (1 ≤ r) × (r < count ss')
  pub leads : (r ≡ 0 → ⊥) → (x : Regexp) → s ≡ flat x [] → Leads x c k (marks_of ss k) r (marks_of ss' r)
  pub alone : r ≡ 0 → (x : Regexp) → s ≡ flat x [] → Good x 0 ms × Told (Rest x 0 ms []) b × Leads x c k (marks_of ss k) 2 ms

-- a trace at the place i, in state k
pub record Tracing (s t ss0 es ss ms : List ℕ) (i k : ℕ) : Type 0 where
  pub tables : Tables s es ss
  pub wide : width ss ≡ width ss0
  pub long : length ms ≡ width ss
  pub place : i ≤ length t
  pub low : 1 ≤ k
  pub high : k < count ss
  pub reached : Reached s t ss i k
