-- A film catches up with the last entry.
use Rattle.std.proofs.Common.{◌≡◌, ℕ, ◌+◌, ◌<◌, ◌≤◌, List, length, get_or, slice_get, Option, Some, None, Bor, refl, sym, ap, ◌∙◌}
use Rattle.std.specs.List.{HoldsAt}
use Rattle.std.specs.Option.{IfSome, MatchOption, option_copied}
use Rattle.std.proofs.lemmas.Option.{slice_get_past, slice_get_read}
use Rattle.vm_facts.specs.declared.entry.Entry.{Entry}
use Rattle.vm_facts.specs.declared.event.Event.{Event}
use Rattle.flat_state.specs.Journal.{counted as entry_counts}
use Rattle.run_model.specs.declared.mark.Mark.{Mark}
use Rattle.film_core.specs.Films.{Filming}
use Rattle.film_core.specs.Marks.{mark_behind, lines_behind}
use Rattle.film_core.specs.Entries.{caught_up}

pub got : (r : Option (Bor Event)) (xs : List Event) (i : ℕ) → IfSome r (λ x. x.now ≡ get_or xs i x.now)
    → MatchOption r (length xs ≤ i) (λ x. (i < length xs) × HoldsAt (λ y. x.now ≡ y) xs i) → option_copied r ≡ slice_get xs i
got None xs i h m = sym (slice_get_past xs i m)
got (Some x) xs i h m = sym (slice_get_read xs (length xs) i x.now refl m.0 h)

pub caught : (f : Filming) (lines : List Event) (e : Entry) (taken more count : ℕ) (mark : Mark) (event : Option Event) → more ≡ entry_counts e
    → event ≡ slice_get lines f.lines → taken ≡ lines_behind f.lines e
    → mark ≡ mark_behind f.machine.kernel (f.counted + more) event f.mark e → count ≡ f.counted + more
    → (let new : Filming = record f { lines = taken; mark = mark; counted = count } in new ≡ caught_up f lines e)
caught f lines e taken more count mark event m v t k c =
    ap (λ (n : ℕ). let x : Filming = record f { lines = n; mark = mark; counted = count } in x) t
    ∙ ap (λ (y : Mark). let x : Filming = record f { lines = lines_behind f.lines e; mark = y; counted = count } in x)
    (k ∙ ap (λ (o : Option Event). mark_behind f.machine.kernel (f.counted + more) o f.mark e) v ∙ ap (λ (n : ℕ). mark_behind f.machine.kernel (f.counted + n) (slice_get lines f.lines) f.mark e) m)
    ∙ ap (λ (n : ℕ). let x : Filming = record f {
      lines = lines_behind f.lines e;
      mark = mark_behind f.machine.kernel (f.counted + entry_counts e) (slice_get lines f.lines) f.mark e;
      counted = n;
    } in x) (c ∙ ap (λ (n : ℕ). f.counted + n) m)
