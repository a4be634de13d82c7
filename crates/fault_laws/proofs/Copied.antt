-- A run whose faults alone are fewer than the least: a fork copies two pages, which the child then changes.
use Rattle.std.proofs.Common.{◌≡◌, inl, inr, ℕ, zero, suc, ◌*◌, ◌<◌, ◌≤◌, true, false, [], ◌∷◌, ◌++◌, List, length, map, Option, Some, None, Ok, replicate, refl, sym, ap, ◌∙◌, subst, arith}
use Rattle.std.specs.Prelude.{◌==◌}
use Rattle.std.proofs.lemmas.Bool.{cases_eq, ne_eqb, eq-eqb, eqb-true, false≢true, or_cases, or_left, or_right}
use Rattle.vm_facts.specs.declared.page.Page.{Page}
use Rattle.vm_facts.specs.declared.page.Page.TheVariants.{Data, Stack, Text}
use Rattle.vm_facts.specs.declared.entry.Entry.{Entry}
use Rattle.vm_facts.specs.declared.entry.Entry.TheVariants.{Zero, Copy, Get, Done, Turn, Ran, Call, Ended}
use Rattle.user_vax.specs.Effects.{bytes_at, store_effect}
use Rattle.flat_model.specs.Calls.{argument, exit_reply, reply_of}
use Rattle.resource_map.specs.Room.{lowest_room, lowest as lowest_of, has_room, all_pass}
use Rattle.swap_book.specs.Holdings.{Holdings, fit, is_in, is_held, kept}
use Rattle.swap_dmap.specs.Chunks.{pieces, chunk, chunk_start, lowest_below, chunks_holding, chunk_reached, counted_from, last_piece, text_pieces}
use Rattle.flat_model.specs.Asked.{first_held, start_held, or_before, asks, held_step}
use Rattle.aout_image.specs.declared.Kind.TheVariants.{Paged}
use Rattle.flat_state.specs.Flat.{NamedImage, Inputs, image_numbered, argument_area, start_regs}
use Rattle.flat_state.specs.Journal.{appended}
use Rattle.flat_state.specs.PageNames.{same_page, is_among}
use Rattle.flat_state.proofs.Joins.{appended_units}
use Rattle.flat_state.proofs.PageNames.{same_page_is}
use Rattle.page_model.specs.Conditions.{EachPage, AllApart}
use Rattle.kernel_model.specs.Start.{ImageFits}
use Rattle.aout_image.specs.Image.{page_at}
use Rattle.page_model.specs.PageBytes.{zeros}
use Rattle.page_opt.specs.Plans.{has}
use Rattle.page_opt.specs.Cache.{bit, count_in}
use Rattle.page_opt.proofs.Counts.{bit_le}
use Rattle.fault_laws.specs.Memory.{NoneFewer}
use Rattle.fault_laws.proofs.Cold.{pages_fault}
use Rattle.fault_laws.specs.Faults.{IsNumbering, CopiesCount}
use Rattle.run_laws.specs.Running.{CanRun}
use Rattle.run_laws.proofs.Lawful.{all_units}
use Rattle.run_model.specs.State.{State, start}
use Rattle.run_model.specs.After.{after, state_after}
use Rattle.run_model.specs.Next.{next_unit}
use Rattle.run_model.specs.Act.{act}
use Rattle.run_model.specs.Lawful.{Follows}
use Rattle.flat_model.specs.Step.{flat_step}
use Rattle.flat_model.specs.Run.{flat_entry, start_point}
use Rattle.flat_model.specs.Touched.{distinct, step_accesses, touched}
use Rattle.flat_state.specs.Change.{replaced, returned, apply_change, apply_writes}
use Rattle.flat_state.specs.Space.{spot_at}
use Rattle.swap_book.specs.Placing.{place_all}
use Rattle.user_vax.specs.Computation.{computation}
use Rattle.user_vax.specs.Instruction.{fetch, evaluations, write_tests, tested_effect, execution, execution_by, instruction}
use Rattle.user_vax.specs.Operands.{number_at, address_of, evaluation_at, evaluation_through, evaluation}
use Rattle.vax_code.specs.Reading.{next_byte, next_number as number_read, next_signed, next_displacement, base_at, indexed_at, next_specifier, next_operand, with_count, operand_in_place, next_operands, instruction_at, decoded}
use Rattle.vax_code.specs.Table.{all_rows, row_for}
use Rattle.replay_check.specs.Verdicts.{references_from, references_of}

-- Next units, as many as are asked for.

more : Option Entry → Inputs → State → (State → List Entry) → List Entry
more None A s next = []
more (Some u) A s next = u ∷ next (after A s u)

units_from : ℕ → Inputs → State → List Entry
units_from zero A s = []
units_from (suc n) A s = more (next_unit A s) A s (units_from n A)

units_follow : (n : ℕ) (A : Inputs) (s : State) (us : List Entry) → units_from n A s ≡ us → length us ≡ n → Follows A s us (state_after A s us)
unfolding units_from more state_after
units_follow zero A s [] e l = refl
units_follow zero A s (u ∷ us) e l = absurd cc
units_follow (suc n) A s [] e l = absurd cc
units_follow (suc n) A s (u ∷ us) e l = go (next_unit A s) refl e (λ x k. units_follow n A x us k (omega arith))
  where
    go : (o : Option Entry) → next_unit A s ≡ o → more o A s (units_from n A) ≡ u ∷ us → ((x : State) → units_from n A x ≡ us → Follows A x us (state_after A x us))
        → (next_unit A s ≡ Some u) × Follows A (after A s u) us (state_after A (after A s u) us)
    go None h k rest = absurd cc
    go (Some v) h k rest =
        let same : v ≡ u = cc in
        let tail : units_from n A (after A s v) ≡ us = cc in
        (h ∙ ap (λ (x : Entry). Some x) same, rest (after A s u) (ap (λ (x : Entry). units_from n A (after A s x)) (sym same) ∙ tail))

-- The run.

-- the image of the example `copied`
copied_image : NamedImage
copied_image = record {
  name = 99 ∷ 111 ∷ 112 ∷ 105 ∷ 101 ∷ 100 ∷ [];
  image = record {
    facts = record { kind = Paged; text_len = 1024; data_len = 0; bss_len = 2048; entry = 0 };
    text = (0 ∷ 0 ∷ 144 ∷ 1 ∷ 159 ∷ 0 ∷ 4 ∷ 0 ∷ 0 ∷ 144 ∷ 1 ∷ 159 ∷ 0 ∷ 8 ∷ 0 ∷ 0 ∷ 188 ∷ 2
        ∷ 144 ∷ 2 ∷ 159 ∷ 0 ∷ 4 ∷ 0 ∷ 0 ∷ 144 ∷ 2 ∷ 159 ∷ 0 ∷ 8 ∷ 0 ∷ 0 ∷ 222 ∷ 159 ∷ 41 ∷ 0 ∷ 0 ∷ 0 ∷ 92 ∷ 188 ∷ 1 ∷ 1 ∷ []) ++ replicate 982 0;
    «data» = replicate 2048 0;
  };
}

copied_run : Inputs
copied_run = record { images = copied_image ∷ []; file_numbers = 0 ∷ []; first = 1 ∷ []; lines = []; frames = 64; swap_blocks = 256; limit = 100 }

copied_held : Holdings
copied_held = or_before [] (start_held copied_run)

abbrev copied_units : List Entry
copied_units =
    Zero (Stack 1 0) ∷ Turn 1 ∷ Get (Text 1 0) 0 1 ∷ Done ∷ Zero (Data 1 0) ∷ Ran 1 1 ∷ Zero (Data 1 1) ∷ Ran 1 1 ∷ Call 1 2 false 2 0
    ∷ Copy (Data 2 0) ∷ Copy (Data 2 1) ∷ Copy (Stack 2 0) ∷ Ran 1 1 ∷ Ran 1 1 ∷ Ran 1 1 ∷ Ended 1 0 ∷ Turn 2 ∷ Ran 2 1 ∷ Ran 2 1
    ∷ Ran 2 1 ∷ Ended 2 0 ∷ []

-- the pages that each instruction touches, instruction by instruction
abbrev copied_touched : List Page
copied_touched =
    Text 1 0 ∷ Data 1 0 ∷ Text 1 0 ∷ Data 1 1 ∷ Text 1 0 ∷ Text 1 0 ∷ Data 1 0 ∷ Text 1 0 ∷ Data 1 1 ∷ Text 1 0 ∷ Text 1 0
    ∷ Text 1 0 ∷ Data 2 0 ∷ Text 1 0 ∷ Data 2 1 ∷ Text 1 0 ∷ Text 1 0 ∷ []

-- the run makes these units, and touches these pages
copied_makes : (units_from 21 copied_run (start copied_run copied_held) ≡ copied_units)
    × (references_from copied_run (Some (start_point copied_run)) copied_units ≡ copied_touched)
unfolding units_from more copied_run copied_held copied_image next_unit after state_after act asks held_step flat_step distinct step_accesses touched
    argument exit_reply reply_of replaced returned apply_change apply_writes argument_area start_regs spot_at kept place_all computation bytes_at store_effect
    fetch evaluations write_tests tested_effect execution execution_by instruction number_at address_of evaluation_at evaluation_through evaluation
    next_byte number_read next_signed next_displacement base_at indexed_at next_specifier next_operand with_count operand_in_place next_operands instruction_at decoded all_rows row_for
    first_held pieces chunk chunk_start lowest_below chunks_holding chunk_reached counted_from last_piece text_pieces fit is_in is_held lowest_room lowest_of
    has_room all_pass references_from flat_entry
copied_makes = (refl, refl)

copied_holds : start_held copied_run ≡ Ok copied_held
unfolding copied_run copied_held copied_image first_held place_all pieces chunk chunk_start lowest_below chunks_holding chunk_reached counted_from last_piece
    text_pieces fit is_in is_held lowest_room lowest_of has_room all_pass
copied_holds = refl

copied_fits : ImageFits copied_image
unfolding copied_image argument_area zeros
copied_fits = record {
  text = refl;
  «data» = record { size = refl; rest = blank };
  sound = record { whole_text = λ h. refl; whole_data = λ h. refl; text_fits = omega arith; data_fits = omega arith; starts_inside = omega arith };
  name = omega arith;
}
  where
    blank : (v : ℕ) → 0 ≤ 1024 * v → v < 2 → page_at v (replicate 2048 0) ≡ zeros
    blank zero l m = refl
    blank (suc zero) l m = refl
    blank (suc (suc v)) l m = absurd (omega arith)

copied_can : CanRun copied_run copied_held
unfolding copied_run
copied_can = record {
  images = fits;
  first = ((copied_image, refl), tt);
  frames = omega arith;
  pieces = copied_holds;
}
  where
    fits : (number : ℕ) (named : NamedImage) → image_numbered (copied_image ∷ []) number ≡ Some named → ImageFits named
    fits zero named e = absurd cc
    fits (suc zero) named e = subst ImageFits (let k : copied_image ≡ named = cc in k) copied_fits
    fits (suc (suc n)) named e = absurd cc

-- The least.

-- no two pages have one number
apart_once : (number : Page → ℕ) (qs : List Page) → IsNumbering number → AllApart qs → (x : ℕ) → count_in x (map number qs) ≤ 1
apart_once number [] is a x = omega arith
apart_once number (q ∷ qs) is a x = elim (cases_eq (number q) x) [
  | inl e ↦
      let none = other_none number q qs is a.0 in
      let same = ap (λ (n : ℕ). count_in n (map number qs)) e in
      let one = bit_le (number q == x) in
      omega arith
  | inr n ↦ let none = ap bit (ne_eqb (number q) x n) in let rest = apart_once number qs is a.1 x in omega arith
]
  where
    other_none : (number : Page → ℕ) (q : Page) (qs : List Page) → IsNumbering number → EachPage (λ r. r ≡ q → ⊥) qs → count_in (number q) (map number qs) ≡ 0
    other_none number q [] is a = refl
    other_none number q (r ∷ rs) is a =
        let none = ap bit (ne_eqb (number r) (number q) (λ e. a.0 (is r q e))) in
        let rest = other_none number q rs is a.1 in
        omega arith

among_has : (number : Page → ℕ) (q : Page) (refs : List Page) → is_among q refs ≡ true → has (number q) (map number refs) ≡ true
unfolding has
among_has number q [] h = absurd (false≢true h)
among_has number q (r ∷ rs) h = elim (or_cases (same_page q r) (is_among q rs) h) [
  | inl e ↦ or_left (number r == number q) (has (number q) (map number rs)) (eq-eqb (number r) (number q) (ap number (sym (same_page_is q r e))))
  | inr e ↦ or_right (number r == number q) (has (number q) (map number rs)) (among_has number q rs e)
]

all_among : (number : Page → ℕ) (qs refs : List Page) → EachPage (λ q. is_among q refs ≡ true) qs → (x : ℕ) → has x (map number qs) ≡ true
    → has x (map number refs) ≡ true
unfolding has
all_among number [] refs a x h = absurd (false≢true h)
all_among number (q ∷ qs) refs a x h = elim (or_cases (number q == x) (has x (map number qs)) h) [
  | inl e ↦ subst (λ (n : ℕ). has n (map number refs) ≡ true) (eqb-true (number q) x e) (among_has number q refs a.0)
  | inr e ↦ all_among number qs refs a.1 x e
]

-- so there are at least as many faults as pages
pages_are_least : (number : Page → ℕ) (qs refs : List Page) (n : ℕ) → IsNumbering number → AllApart qs → EachPage (λ q. is_among q refs ≡ true) qs
    → NoneFewer (map number refs) n (length (map number qs))
pages_are_least number qs refs n is apart among = pages_fault (map number refs) (map number qs) n (apart_once number qs is apart) (all_among number qs refs among)

abbrev copied_pages : List Page
copied_pages = Text 1 0 ∷ Data 1 0 ∷ Data 1 1 ∷ Data 2 0 ∷ Data 2 1 ∷ []

copied_apart : AllApart copied_pages
copied_apart = (
  ((λ e. absurd cc), ((λ e. absurd cc), ((λ e. absurd cc), ((λ e. absurd cc), tt)))),
  (
    ((λ e. absurd cc), ((λ e. absurd cc), ((λ e. absurd cc), tt))),
    (((λ e. absurd cc), ((λ e. absurd cc), tt)), (((λ e. absurd cc), tt), (tt, tt))),
  ),
)

-- The law.

copied_behind : State
copied_behind = state_after copied_run (start copied_run copied_held) copied_units

copied_follows : Follows copied_run (start copied_run copied_held) copied_units copied_behind
unfolding copied_behind
copied_follows = units_follow 21 copied_run (start copied_run copied_held) copied_units copied_makes.0 refl

copied_references : references_of copied_run (appended [] copied_units) ≡ copied_touched
copied_references = ap (references_from copied_run (Some (start_point copied_run)))
    (appended_units [] copied_units (all_units copied_run copied_units (start copied_run copied_held) copied_behind copied_follows)) ∙ copied_makes.1

pub copies_matter : CopiesCount
copies_matter = (
  copied_run,
  record {
    holdings = copied_held;
    can = copied_can;
    journal = appended [] copied_units;
    state = copied_behind;
    reaches = record {
      holdings = copied_held;
      found = copied_holds;
      units = copied_units;
      follows = copied_follows;
      joined = refl;
    };
    least = 5;
    none_fewer = λ number is. subst (λ (refs : List Page). NoneFewer (map number refs) copied_run.frames 5) (sym copied_references)
        (pages_are_least number copied_pages copied_touched copied_run.frames is copied_apart (refl, (refl, (refl, (refl, (refl, tt))))));
    below = omega arith;
  },
)
