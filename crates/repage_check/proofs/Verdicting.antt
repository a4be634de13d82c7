-- A verdict says of a trace what it is.
use Rattle.std.proofs.Common.{◌≡◌, ℕ, List, Some, None, Result, Ok, Err, refl, sym, ap, ◌∙◌, subst}
use Rattle.std.proofs.lemmas.Option.{same_Some}
use Rattle.swap_book.specs.Holdings.{Holdings}
use Rattle.flat_state.specs.Flat.{Inputs}
use Rattle.flat_model.specs.Asked.{start_held}
use Rattle.paged_model.specs.declared.line.Line.{Line}
use Rattle.paged_model.specs.declared.reason.Misstep.{Misstep}
use Rattle.paged_model.specs.Traces.{first_trace_misstep}
use Rattle.run_laws.proofs.Acts.{ok_same}
use Rattle.repage_check.specs.declared.checking.Verdict.TheVariants.{NoSpace, Paged, Not}
use Rattle.repage_check.specs.Verdicts.{IsJudged}

err_is : (p q : ℕ) → (let r : Result Holdings ℕ = Err p in r) ≡ Err q → p ≡ q
err_is p q e = cc

ok_err : (hs : Holdings) (p : ℕ) → (let r : Result Holdings ℕ = Ok hs in r) ≡ Err p → ⊥
ok_err hs p e = cc

-- where the pieces of a first process find no place
pub lacking : (A : Inputs) (ls : List Line) (pid : ℕ) → start_held A ≡ Err pid → IsJudged A ls (NoSpace pid)
lacking A ls pid lacks = record {
  paged = (λ e. absurd cc, λ r. absurd (ok_err r.holdings pid (sym r.found ∙ lacks)));
  misstep = λ misstep. (λ e. absurd cc, λ r. absurd (ok_err r.holdings pid (sym r.found ∙ lacks)));
  no_space = λ q. (
    λ e. subst (λ (p : ℕ). start_held A ≡ Err p) (named pid q e) lacks,
    λ e. ap NoSpace (err_is pid q (sym lacks ∙ e)),
  );
}
  where
    named : (p q : ℕ) → NoSpace p ≡ NoSpace q → p ≡ q
    named p q e = cc

module _ (A : Inputs) (ls : List Line) (hs : Holdings) (found : start_held A ≡ Ok hs) where
  -- where each line may come
  pub all_come : first_trace_misstep A hs ls ≡ None → IsJudged A ls Paged
  all_come none = record {
    paged = (λ e. record { holdings = hs; found = found; good = none }, λ r. refl);
    misstep = λ misstep. (
      λ e. absurd cc,
      λ r.
          let same : r.holdings ≡ hs = ok_same r.holdings hs (sym r.found ∙ found) in
          absurd (let z : None ≡ Some misstep = sym none ∙ ap (λ (x : Holdings). first_trace_misstep A x ls) (sym same) ∙ r.first in cc),
    );
    no_space = λ pid. (λ e. absurd cc, λ e. absurd (ok_err hs pid (sym found ∙ e)));
  }

  -- where one can't
  pub one_fails : (misstep : Misstep) → first_trace_misstep A hs ls ≡ Some misstep → IsJudged A ls (Not misstep)
  one_fails misstep first = record {
    paged = (
      λ e. absurd cc,
      λ r.
          let same : r.holdings ≡ hs = ok_same r.holdings hs (sym r.found ∙ found) in
          absurd (let z : Some misstep ≡ None = sym first ∙ ap (λ (x : Holdings). first_trace_misstep A x ls) (sym same) ∙ r.good in cc),
    );
    misstep = λ other. (
      λ e. record { holdings = hs; found = found; first = first ∙ ap Some (named misstep other e) },
      λ r.
          let same : r.holdings ≡ hs = ok_same r.holdings hs (sym r.found ∙ found) in
          ap Not (same_Some misstep other (sym first ∙ ap (λ (x : Holdings). first_trace_misstep A x ls) (sym same) ∙ r.first)),
    );
    no_space = λ pid. (λ e. absurd cc, λ e. absurd (ok_err hs pid (sym found ∙ e)));
  }
    where
      named : (m n : Misstep) → Not m ≡ Not n → m ≡ n
      named m n e = cc
