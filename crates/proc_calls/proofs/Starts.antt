-- What is so of a machine whose process starts an image.
use Rattle.std.proofs.Common.{◌≡◌, ℕ, zero, suc, Bool, true, false, List, length, Option, refl, sym, ap, ◌∙◌, subst}
use Rattle.std.specs.Prelude.{Result, Ok, Err, IfOk}
use Rattle.vm_facts.specs.SwapImages.{SwapImage}
use Rattle.io_edge.specs.FileHolding.{NamedFile}
use Rattle.vm_facts.specs.declared.params.Params.{Params}
use Rattle.vm_facts.specs.declared.stop.Stop.{Stop}
use Rattle.vm_facts.specs.declared.page.Page.TheVariants.{Text}
use Rattle.swap_book.specs.Holdings.{Holdings}
use Rattle.page_model.specs.Placement.{Placement, slots_of, sharers, sharers_in}
use Rattle.page_model.specs.Moves.{done}
use Rattle.page_laws.proofs.Lists.Pages.{put_sharers}
use Rattle.page_laws.proofs.Moves.Puts.{KeptByPuts, rest_by_puts, done_kept}
use Rattle.machine_state.proofs.Shapes.{done_shaped, sizes_kept}
use Rattle.kernel_model.specs.Kernel.{Kernel, done_step}
use Rattle.kernel_model.specs.Unit.{has_lender}
use Rattle.machine_state.specs.Want.{Want}
use Rattle.machine_state.specs.Machine.{Standing}
use Rattle.machine_state.specs.Conditions.{KeepsFlat}
use Rattle.machine_state.specs.Done.{Sources, sources}
use Rattle.machine_state.specs.Settled.{EndsWhile}
use Rattle.machine_state.specs.Wants.{found_for, fits_for}
use Rattle.fault_fill.specs.Growth.{space_of_pid, with_pieces}
use Rattle.proc_calls.specs.Leaving.{HasLeftBy, HasLeft}
use Rattle.proc_calls.specs.Making.{without_pieces}
use Rattle.proc_calls.specs.Starting.{wants_found, Finds}

-- What the pieces of an image depend on stays as transfers end.

pub record StaysFor (k l : Kernel) : Type 0 where
  pub holdings : l.holdings ≡ k.holdings
  pub number : l.next_sid ≡ k.next_sid
  pub sharing : (image : ℕ) → sharers l.place image ≡ sharers k.place image
  pub texts : (image : ℕ) → length (slots_of l.place (Text image 0)) ≡ length (slots_of k.place (Text image 0))
  pub frames : length l.place.holds ≡ length k.place.holds

stays_for : (k : Kernel) → StaysFor k k
stays_for k = record { holdings = refl; number = refl; sharing = λ i. refl; texts = λ i. refl; frames = refl }

abbrev ShareAlike : Placement → Placement → Type 0
ShareAlike p q = (image : ℕ) → sharers q image ≡ sharers p image

sharing_by_puts : KeptByPuts ShareAlike
sharing_by_puts = record {
  still = λ p q a b c. λ i. ap (sharers_in i) a;
  both = λ p q r s t. λ i. t i ∙ s i;
  puts = put_sharers;
}

done_stays : (k : Kernel) (read : List (List ℕ)) → StaysFor k (done_step k read)
done_stays k read = record {
  holdings = refl;
  number = refl;
  sharing = done_kept sharing_by_puts k.place;
  texts = λ i. sizes_kept k.place (done k.place) (done_shaped k.place) (Text i 0);
  frames = let rest = done_kept rest_by_puts k.place in rest.count;
}

both_stay : (k l m : Kernel) → StaysFor k l → StaysFor l m → StaysFor k m
both_stay k l m a b = record {
  holdings = b.holdings ∙ a.holdings;
  number = b.number ∙ a.number;
  sharing = λ i. b.sharing i ∙ a.sharing i;
  texts = λ i. b.texts i ∙ a.texts i;
  frames = b.frames ∙ a.frames;
}

pub ends_stay : (from : Sources) (sid n : ℕ) (old new : Kernel) (before after : Option SwapImage) → EndsWhile from sid n old before new after → StaysFor old new
ends_stay from sid zero old new before after e = subst (StaysFor old) (sym e.0) (stays_for old)
ends_stay from sid (suc n) old new before after e =
    both_stay old e.1.0 new (subst (StaysFor old) (sym e.1.2.step) (done_stays old e.1.2.read)) (ends_stay from sid n e.1.0 new e.1.1 after e.1.4)

-- Once the process left its space.

pub record IsReady (old new : Standing) : Type 0 where
  pub kernel : StaysFor old.kernel new.kernel
  pub params : new.params ≡ old.params
  pub images : new.images ≡ old.images
  pub before : new.before ≡ old.before

ready_by : (lent : Bool) (m n : Standing) (pid : ℕ) (holds : Option (List NamedFile)) (before after : Option SwapImage)
    → HasLeftBy lent m n pid holds before after → IsReady m n
ready_by true m n pid holds before after h = subst (IsReady m) (sym h.step) (record {
  kernel = record { holdings = refl; number = refl; sharing = λ i. refl; texts = λ i. refl; frames = refl };
  params = refl;
  images = refl;
  before = refl;
})
ready_by false m n pid holds before after h = record {
  kernel = ends_stay (sources m holds) (space_of_pid m.kernel pid) h.settled.count m.kernel n.kernel before after h.settled.ends;
  params = h.rest.params;
  images = h.rest.images;
  before = h.rest.before;
}

pub is_ready : (m n : Standing) (pid : ℕ) (holds : Option (List NamedFile)) (before after : Option SwapImage) → HasLeft m n pid holds before after → IsReady m n
is_ready m n pid holds before after h = ready_by (has_lender m.kernel.processes pid) m n pid holds before after h

same_fits : (m n : Standing) (wants : List Want) → IsReady m n
    → fits_for n.params.swap_blocks n.kernel.holdings wants ≡ fits_for m.params.swap_blocks m.kernel.holdings wants
same_fits m n wants r =
    ap (λ (hs : Holdings). fits_for n.params.swap_blocks hs wants) r.kernel.holdings
    ∙ ap (λ (p : Params). fits_for p.swap_blocks m.kernel.holdings wants) r.params

differs : {A : Type 0} → true ≡ false → A
differs e = absurd cc

-- The pieces find no place.

pub none_found : (r : Result Bool Stop) (old between new : Standing) (pid : ℕ) (wants : List Want) (holds : Option (List NamedFile)) (before : Option SwapImage)
    → between ≡ old
    → fits_for old.params.swap_blocks old.kernel.holdings wants ≡ false
    → IfOk r (λ fits. fits ≡ fits_for between.params.swap_blocks between.kernel.holdings wants)
    → (r ≡ Ok false → new ≡ without_pieces between pid) → (r ≡ Ok false → KeepsFlat between.kernel new.kernel)
    → IfOk r (λ fits. Finds (wants_found wants) fits old new pid holds before before)
none_found (Err stop) old between new pid wants holds before e none answer refused keeps = tt
none_found (Ok true) old between new pid wants holds before e none answer refused keeps =
    differs (answer ∙ ap (λ (x : Standing). fits_for x.params.swap_blocks x.kernel.holdings wants) e ∙ none)
none_found (Ok false) old between new pid wants holds before e none answer refused keeps = record {
  answer = sym none;
  finds = record {
    step = refused refl ∙ ap (λ (x : Standing). without_pieces x pid) e;
    keeps = subst (λ (x : Standing). KeepsFlat x.kernel new.kernel) e (keeps refl);
    image = refl;
  };
}

-- They find their places, and the process left its space.

pub left_found : (r : Result Bool Stop) (old between new : Standing) (pid : ℕ) (wants : List Want) (holds : Option (List NamedFile))
    (before after : Option SwapImage)
    → HasLeft old between pid holds before after → fits_for old.params.swap_blocks old.kernel.holdings wants ≡ true
    → IfOk r (λ fits. fits ≡ fits_for between.params.swap_blocks between.kernel.holdings wants)
    → (r ≡ Ok true → (hs : Holdings) × (found_for between.params.swap_blocks between.kernel.holdings wants ≡ Ok hs) × (new ≡ with_pieces between hs))
    → IfOk r (λ fits. Finds (wants_found wants) fits old new pid holds before after)
left_found (Err stop) old between new pid wants holds before after left fit answer found = tt
left_found (Ok false) old between new pid wants holds before after left fit answer found =
    differs (sym (answer ∙ same_fits old between wants (is_ready old between pid holds before after left) ∙ fit))
left_found (Ok true) old between new pid wants holds before after left fit answer found =
    let f = found refl in
    record { answer = sym fit; finds = record { between = between; left = left; found = f.0; finds = f.1; step = f.2 } }
