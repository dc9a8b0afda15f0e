-- A trace over a text from state to state. Assumes nothing.
use mathlib.Core.Path.{◌≡◌, refl, sym, ◌∙◌, subst}
use mathlib.Core.Bool.{Bool}
use mathlib.Core.List.{List}
use Prim.Native.Nat.{ℕ, ◌+◌, ◌*◌, ◌≤◌, ◌<◌}
use native.Mathlib.Omega.{arith}
use lib.Dec.{eqb}
use borrow.Author.Tests.{eq-eqb}
use lib.ListN.{length, get_or}
use Rattle.regex_chars.specs.Chars.{Stands}
use Rattle.regex_marks.specs.Moves.{Fits}
use Rattle.regex_marks.specs.Runs.{Read, Ran}
use Rattle.regex_states.specs.Ready.{width, count, Tables}
use Rattle.regex_states.specs.Texts.{Inside, Followed, Stepped, Tracing}
use Rattle.regex_states.proofs.Steps.{
  along_start,
  along_step,
  along_end,
  along_settled,
  along_read,
  trail_inside,
  reached_trail,
}

pub trace_start :
    {s t es ss ms : List ℕ} → Tables s es ss → length ms ≡ width ss → Tracing s t ss es ss ms 0 1
trace_start g n =
    record {
      tables = g;
      wide = refl;
      long = n;
      place = omega arith;
      low = omega arith;
      high = omega (arith, g.some);
      reached = record { of = λ x cs e u. along_start (g.of x e).start u };
    }

-- at a place
module _ {s t ss0 es ss ms : List ℕ} {i k : ℕ} (w : Tracing s t ss0 es ss ms i k) where
  pub trace_inside : Inside es k
  trace_inside =
      record { count = count ss; here = (w.low, w.high); fits = w.tables.edges; inside = w.tables.inside }

  pub trace_row : k * 128 + 128 ≤ length ss
  trace_row = omega (arith, w.high, w.tables.sets)

  pub trace_follow : {j m : ℕ} → Followed es t i k j m → Tracing s t ss0 es ss ms j m
  trace_follow f =
      let h = trail_inside w.tables i k w.low w.high f.trail in
      record {
        tables = w.tables;
        wide = w.wide;
        long = w.long;
        place = f.to;
        low = h.0;
        high = h.1;
        reached = reached_trail w.tables i k w.low w.high f.trail w.reached;
      }

  -- the answers
  pub trace_end : length t ≤ i → Ran s t (width ss0) (eqb (get_or ss (k * 128 + 127) 0) 1)
  trace_end h =
      record {
        of =
            λ x cs e u r. along_end (w.reached.of x cs e u) h ((w.tables.of x e).state k w.low w.high).told;
      }

  pub trace_settled : get_or ss (k * 128 + 126) 0 ≡ 1 → Ran s t (width ss0) (eqb (get_or ss (k * 128 + 127) 0) 1)
  trace_settled h =
      record {
        of =
            λ x cs e u r.
            let d = (w.tables.of x e).state k w.low w.high in
            along_settled (w.reached.of x cs e u) d.told (d.settled (eq-eqb _ 1 h));
      }

  -- a character more by the marks
  module _
      {es' ss' ms' : List ℕ}
      {next c r : ℕ}
      {b : Bool}
      (h : i < length t)
      (st : Stands t i (length t) next c)
      (p : Stepped s es ss k c es' ss' ms' r b)
    where
      pub trace_step : (r ≡ 0 → ⊥) → Tracing s t ss0 es' ss' ms' next r
      trace_step n =
          let q = p.state n in
          record {
            tables = p.tables;
            wide = p.wide ∙ w.wide;
            long = p.long ∙ sym p.wide;
            place = st.within;
            low = q.0;
            high = q.1;
            reached =
                record {
                  of =
                      λ x cs e u.
                      along_step (w.reached.of x cs e u) h st (p.leads n x e);
                };
          }

      pub trace_fits : Fits s 0 ms' 0
      trace_fits =
          record {
            place = omega arith;
            words = omega (arith, p.tables.words);
            room = omega arith;
            few = omega (arith, p.long, w.tables.few);
          }

      pub trace_read : r ≡ 0 → Read s t next ms' b
      trace_read n =
          record {
            of =
                λ x cs e u y.
                let f = p.alone n x e in
                along_read (along_step (w.reached.of x cs e u) h st f.2) (λ z. omega arith) (omega (arith, st.after)) f.0 f.1;
          }

      pub trace_ran : {m : ℕ} {d : Bool} → m ≡ length ms' → Ran s t m d → Ran s t (width ss0) d
      trace_ran {m} {d} e q = subst (λ n. Ran s t n d) (e ∙ p.long ∙ w.wide) q
