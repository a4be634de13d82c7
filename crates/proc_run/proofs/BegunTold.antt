-- How a step is begun at the end of a journal.
use Rattle.std.proofs.Common.{◌≡◌, ℕ, zero, suc, ◌+◌, ◌<◌, not, Bool, false, List, [], ◌∷◌, drop, length, get_or, Option, Some, None, refl, sym, ap, ◌∙◌}
use Rattle.std.proofs.lemmas.List.{at_drop_more}
use Rattle.vm_facts.specs.declared.entry.Entry.{Entry}
use Rattle.vm_facts.specs.declared.entry.Entry.TheVariants as entries
use Rattle.run_model.specs.Next.{when, or_else}
use Rattle.step_units.specs.Rests.{is_done, unless_done, before_done, beginning}
use Rattle.step_units.proofs.Telling.{beginning_last}
use Rattle.proc_run.specs.Rests.{begun_by, BegunIsTold, NoneIsBetween}

-- From an entry on.

last_behind : (js : List Entry) (n : ℕ) (d : Entry) → n < length js → before_done (drop (n + 1) js) ≡ None → is_done (get_or js n d) ≡ false
    → before_done (drop n js) ≡ Some (get_or js n d)
last_behind js n d l rest e =
    at_drop_more before_done js n d l ∙ ap (λ (o : Option Entry). or_else o (unless_done (get_or js n d))) rest ∙ ap (λ (b : Bool). when (not b) (Some (get_or js n d))) e

last_of_all : (n : ℕ) (js : List Entry) (y : Entry) → before_done (drop n js) ≡ Some y → before_done js ≡ Some y
last_of_all zero js y h = h
last_of_all (suc n) [] y h = h
last_of_all (suc n) (x ∷ js) y h = ap (λ (o : Option Entry). or_else o (unless_done x)) (last_of_all n js y h)

pub found_last : (js : List Entry) (n : ℕ) (d : Entry) → n < length js → before_done (drop (n + 1) js) ≡ None → is_done (get_or js n d) ≡ false
    → begun_by (Some (get_or js n d)) ≡ begun_by (before_done js)
found_last js n d l rest e = ap begun_by (sym (last_of_all n js (get_or js n d) (last_behind js n d l rest e)))

-- Along a run.

begins_so : (o : Option Entry) → begun_by o ≡ begun_by (beginning o)
begins_so (Some (entries.Out pid bytes)) = refl
begins_so (Some (entries.Refused pid)) = refl
begins_so None = refl
begins_so (Some _) = refl

pub begun_told : BegunIsTold
begun_told A hs us s can f = begins_so (before_done s.journal) ∙ ap begun_by (beginning_last A hs us s can f) ∙ sym (begins_so s.point.last)

pub none_between : NoneIsBetween
none_between (Some (entries.Out pid bytes)) e = absurd cc
none_between (Some (entries.Refused pid)) e = absurd cc
none_between _ e = tt
