-- The lines before the first that can't come.
use Rattle.std.proofs.Common.{◌≡◌, ℕ, zero, suc, ◌+◌, ◌-◌, ◌<◌, ◌≤◌, List, [], ◌∷◌, length, take, Option, Some, None, refl, sym, ap, ◌∙◌, arith}
use Rattle.std.proofs.lemmas.Option.{same_Some}
use Rattle.flat_state.specs.Flat.{Inputs}
use Rattle.run_model.specs.State.{State}
use Rattle.paged_model.specs.declared.line.Line.{Line}
use Rattle.paged_model.specs.declared.reason.Reason.{Reason}
use Rattle.paged_model.specs.declared.reason.Misstep.{Misstep}
use Rattle.paged_model.specs.Runs.{misstep_or}
use Rattle.paged_model.specs.Traces.{trace_line_reason, trace_line_after, trace_misstep}
use Rattle.repage_check.specs.Moves.{moves_by, HaveFewAfter, HaveFewMoves}
use Rattle.repage_check.proofs.Along.{first_line}

-- the first lines of a trace count few moves where all of it does
few_after : (n k : ℕ) (ls : List Line) → HaveFewAfter n ls → HaveFewAfter n (take k ls)
few_after n zero ls few = tt
few_after n (suc k) [] few = tt
few_after n (suc k) (l ∷ ls) few = (few.0, few_after (moves_by n l) k ls few.1)

pub front_few : (k : ℕ) (ls : List Line) → HaveFewMoves ls → HaveFewMoves (take k ls)
front_few k ls few = few_after 0 k ls few

-- A misstep is at a line that the trace has, and none of the lines before it is bad.
pub record IsWithin (A : Inputs) (s : State) (n : ℕ) (ls : List Line) (misstep : Misstep) : Type 0 where
  pub least : n ≤ misstep.line
  pub most : misstep.line < n + length ls
  pub before : trace_misstep A s n (take (misstep.line - n) ls) ≡ None

no_line : (A : Inputs) (t : State) (n : ℕ) → trace_misstep A t n [] ≡ None
unfolding trace_misstep
no_line A t n = refl

pub is_within : (A : Inputs) (s : State) (n : ℕ) (ls : List Line) (misstep : Misstep) → trace_misstep A s n ls ≡ Some misstep → IsWithin A s n ls misstep
is_within A s n [] misstep e = absurd (let z : None ≡ Some misstep = sym (no_line A s n) ∙ e in cc)
is_within A s n (x ∷ ls) misstep e = go (trace_line_reason A s x) refl (λ k. is_within A (trace_line_after A s x) (n + 1) ls misstep k)
  where
    whole : misstep_or n (trace_line_reason A s x) (trace_misstep A (trace_line_after A s x) (n + 1) ls) ≡ Some misstep
    whole = sym (first_line A s n x ls) ∙ e

    go : (o : Option Reason) → trace_line_reason A s x ≡ o
        → (trace_misstep A (trace_line_after A s x) (n + 1) ls ≡ Some misstep → IsWithin A (trace_line_after A s x) (n + 1) ls misstep)
        → IsWithin A s n (x ∷ ls) misstep
    go (Some r) h rest =
        let here : (let m : Misstep = record { line = n; reason = r } in m) ≡ misstep =
        same_Some (record { line = n; reason = r }) misstep
        (sym (ap (λ (o : Option Reason). misstep_or n o (trace_misstep A (trace_line_after A s x) (n + 1) ls)) h) ∙ whole)
        in
        let line : n ≡ misstep.line = ap (λ (m : Misstep). m.line) here in
        let none : misstep.line - n ≡ 0 = omega (arith, line) in
        record {
          least = omega (arith, line);
          most = omega (arith, line);
          before = ap (λ (k : ℕ). trace_misstep A s n (take k (x ∷ ls))) none ∙ no_line A s n;
        }
    go None h rest =
        let behind : IsWithin A (trace_line_after A s x) (n + 1) ls misstep =
        rest (sym (ap (λ (o : Option Reason). misstep_or n o (trace_misstep A (trace_line_after A s x) (n + 1) ls)) h) ∙ whole)
        in
        let least = behind.least in
        let more : misstep.line - n ≡ suc (misstep.line - (n + 1)) = omega (arith, least) in
        record {
          least = omega (arith, least);
          most = let most = behind.most in omega (arith, most);
          before = ap (λ (k : ℕ). trace_misstep A s n (take k (x ∷ ls))) more
              ∙ first_line A s n x (take (misstep.line - (n + 1)) ls)
              ∙ ap (λ (o : Option Reason). misstep_or n o (trace_misstep A (trace_line_after A s x) (n + 1) (take (misstep.line - (n + 1)) ls))) h
              ∙ behind.before;
        }
