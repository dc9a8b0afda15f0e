-- "All that compiles keeps to it": what compiles is a query form, and its plan and pool are within 65,535 bytes.
use Rattle.std.specs.Prelude.{ℕ, ◌≡◌, refl, List, true, false, ◌&&◌, leb}
use Rattle.std.proofs.Common.{sym, subst, le-leb}
use Rattle.definition.specs.Limits.{max_nesting}
use Rattle.definition.specs.Brackets.{too_deep}
use Rattle.definition.specs.Grammar as G
use Rattle.definition.specs.Grammar.{spell}
use Rattle.definition.specs.Forms.{Query}
use Rattle.definition.specs.QueryForms.{starts_at_root, query_right, nesting, is_form}
use Rattle.definition.specs.Walk.{Walked, walk, walk_segments}
use Rattle.definition.specs.Outcomes.{judge, CompiledKeeps}
use Rattle.definition.specs.Outcomes.Reading.{form}
use Rattle.basics.specs.Bools.{and_both}
use Rattle.compile_forms.specs.Gives.{Gives, then}
use Rattle.compile_forms.specs.Gives.Gives.{nothing, gives}
use Rattle.compile_forms.specs.Fits.{Compiled, compiled, not_refused, early_shallow, plan_fits_lem, pool_fits_lem}
use Rattle.compile_forms.specs.Nested.{nested}
use Rattle.compile_forms.specs.Right.{right}
use Rattle.compile_forms.specs.Shallow.{any}

-- a query begins at `$`
rooted : (t : G.Query) → Gives (λ q. starts_at_root q ≡ true) (walk t)
unfolding walk starts_at_root
rooted t = then (any (walk_segments t.segments)) (λ q hq. gives refl)

-- what the walk gives holds of the form that is judged
judged : {P : Query → Type 0} {m : Walked Query} (q : Query) → Gives P m → judge m ≡ form q → P q
unfolding judge
judged q nothing e = absurd (not_refused e)
judged q (gives {b = true} h) e = absurd (not_refused e)
judged {P} q (gives {b = false} {x = x} h) e = let g : x ≡ q = cc in subst P g h

-- its tree's spelling passes refusal 3
compiled_shallow : {s : List ℕ} {q : Query} (c : Compiled s q) → too_deep (spell c.tree) ≡ false
compiled_shallow {s} c = subst (λ (l : List ℕ). too_deep l ≡ false) (sym c.spelled) (early_shallow s c.passes)

-- what compiles is a query form
pub compiled_form : {s : List ℕ} {q : Query} → Compiled s q → is_form q ≡ true
unfolding is_form
compiled_form {q} c =
    and_both (starts_at_root q) (query_right q && leb (nesting q) max_nesting) (judged q (rooted c.tree) c.judged)
    (and_both (query_right q) (leb (nesting q) max_nesting) (judged q (right c.tree) c.judged)
    (le-leb (nesting q) max_nesting (judged q (nested c.tree (compiled_shallow c)) c.judged)))

-- The plan and the pool of what compiles are the translation of a query form, within their limits.
pub compiled_keeps : CompiledKeeps
compiled_keeps s q h =
    let c = compiled s q h in
    record { is_query = compiled_form c; is_plan = refl; is_pool = refl; plan_fits = plan_fits_lem c; pool_fits = pool_fits_lem c }
