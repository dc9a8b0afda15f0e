-- match takes the whole of a text, search any part of it: search is match of the widened expression. Assumes nothing.
use Rattle.std.specs.Prelude.{◌≡◌, refl, true, List, [], ◌∷◌, ◌++◌, ℕ}
use Rattle.std.proofs.Common.{ap, ◌∙◌}
use Rattle.regex_definition.specs.Words.{any}
use Rattle.regex_definition.specs.Regexp.{Regexp, class, then, times, Describes, One}
use Rattle.regex_definition.specs.Laws.{cons_star, star_nil}

pub data Scope : Type 0 where
  whole : Scope
  part : Scope

-- any number of any characters
abbrev pub anything : Regexp
anything = times 0 any (class true [])

abbrev pub widen : Scope → Regexp → Regexp
widen whole x = x
widen part x = then anything (then x anything)

-- a part of w is in P; the empty parts and the whole are parts
pub record Part (P : List ℕ → Type 0) (w : List ℕ) : Type 0 where
  pub before : List ℕ
  pub inside : List ℕ
  pub behind : List ℕ
  pub eq : w ≡ before ++ (inside ++ behind)
  pub is : P inside

-- every word is one of any characters
pub anything_all : (w : List ℕ) → Describes anything w
anything_all [] = star_nil (One true [])
anything_all (c ∷ w) =
    cons_star (One true []) c w
    (record { fore = []; back = w; eq = refl; is_fore = record { char = c; eq = refl; hit = refl }; is_back = anything_all w })

-- what the widened expression describes has a part that the expression describes
pub part_of : (x : Regexp) (w : List ℕ) → Describes (widen part x) w → Part (Describes x) w
part_of x w j =
    let i = j.is_back in
    record {
      before = j.fore;
      inside = i.fore;
      behind = i.back;
      eq = j.eq ∙ ap (λ l. j.fore ++ l) i.eq;
      is = i.is_fore;
    }

-- and the other way
pub of_part : (x : Regexp) (w : List ℕ) → Part (Describes x) w → Describes (widen part x) w
of_part x w p =
    record {
      fore = p.before;
      back = p.inside ++ p.behind;
      eq = p.eq;
      is_fore = anything_all p.before;
      is_back =
          record {
            fore = p.inside;
            back = p.behind;
            eq = refl;
            is_fore = p.is;
            is_back = anything_all p.behind;
          };
    }
