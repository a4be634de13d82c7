-- The sizes of a process, and what a change of its data asks.
use Rattle.std.proofs.Common.{◌≡◌, ℕ, ◌+◌, ◌*◌, ◌/◌, ◌%◌, ◌<◌, ◌≤◌, min, Bool, true, false, List, Option, [], ◌∷◌, ◌++◌, length, drop, refl, sym, ap, ◌∙◌, subst, inl, inr, arith}
use Rattle.std.specs.Prelude.{Ok}
use Rattle.std.proofs.lemmas.Bool.{cases_lt, le-leb, lt-leb}
use Rattle.vm_facts.specs.SwapImages.{SwapImage}
use Rattle.vm_facts.specs.declared.regs.Regs.{Regs}
use Rattle.vm_facts.specs.declared.page.Page.TheVariants as pages
use Rattle.core_map.specs.Frames.{Frames}
use Rattle.io_edge.specs.FileHolding.{NamedFile}
use Rattle.space_map.specs.Space.{Places}
use Rattle.aout_image.specs.declared.Image.{Image}
use Rattle.aout_image.specs.Image.{pages_for}
use Rattle.swap_dmap.specs.Chunks.{pieces}
use Rattle.swap_book.specs.declared.Owner.{Owner}
use Rattle.swap_book.specs.declared.Owner.TheVariants as owners
use Rattle.swap_book.specs.declared.Held.{Held}
use Rattle.swap_book.specs.Holdings.{Holdings, of_owner, lengths}
use Rattle.swap_book.specs.Placing.{Wanted, wanted, place_all}
use Rattle.flat_state.specs.declared.change.Change.TheVariants.{Resize}
use Rattle.flat_model.specs.Calls.{replied, break_by}
use Rattle.flat_model.specs.declared.calls.Reply.TheVariants.{Does, Fails}
use Rattle.flat_model.specs.declared.calls.SystemCall.TheVariants.{Break}
use Rattle.flat_model.specs.Step.{call_entry}
use Rattle.page_model.specs.Placement.{Placement, slots_of}
use Rattle.page_model.specs.Place.{data_count, stack_count}
use Rattle.page_model.specs.Conditions.{LosesPages}
use Rattle.page_model.specs.Swapper.{is_settled}
use Rattle.kernel_model.specs.Asks.{HasSpace, further, change_asks, asked}
use Rattle.kernel_model.specs.Kernel.{Life, Kernel, Proc}
use Rattle.kernel_model.specs.ChangeStep.{space_of_life, life_of_proc}
use Rattle.page_model.specs.Pages.{numbered}
use Rattle.page_laws.proofs.Swapper.PuttingOut.{same_out}
use Rattle.kernel_model.specs.Sound.{Sound}
use Rattle.machine_state.proofs.GivenBack.{pieces_mono, drop_past}
use Rattle.machine_state.specs.Views.{ShowsPage, ShowsSpace}
use Rattle.machine_state.proofs.Entries.{data_hit, stack_hit, text_hit}
use Rattle.machine_state.proofs.Shows.{length_map}
use Rattle.machine_state.proofs.UserFrames.{get_within, get_past}
use Rattle.machine_state.specs.Machine.{Standing}
use Rattle.machine_state.specs.Applying.{CanApply, MayAct, facts_named}
use Rattle.machine_state.specs.Done.{sources}
use Rattle.machine_state.specs.UserMemory.{CanLend}
use Rattle.machine_state.specs.Wants.{wanted_of, found_for}
use Rattle.machine_state.specs.Want.{Want}
use Rattle.fault_fill.specs.Growth.{space_of_pid, with_pieces}
use Rattle.fault_fill.proofs.Touching.{same_size}
use Rattle.proc_calls.specs.Callers.{IsCaller}
use Rattle.proc_calls.specs.Sizing.{process_data_pages, process_stack_pages, break_at, pieces_found}
use Rattle.proc_calls.specs.Leaving.{HasSettled}
use Rattle.proc_calls.proofs.Callers.{caller_lives}
use Rattle.proc_calls.proofs.Leaving.{GoesOn, settled_goes, space_stays}

-- The map of a space shows how many pages it has.

module _ (p : Placement) (core : Frames) (s : Places) (shows : ShowsSpace p core s) where
  data_in : (v : ℕ) → v < length s.«data» → v < data_count p s.sid
  data_in v l =
      let x = get_within s.«data» v l in
      (subst (ShowsPage p core.slots (pages.Data s.sid v)) (data_hit s s.sid v refl ∙ x.1) (shows.pages (pages.Data s.sid v) refl)).0

  data_only : (v : ℕ) → v < data_count p s.sid → v < length s.«data»
  data_only v l = elim (cases_lt v (length s.«data»)) [
    | inl below ↦ below
    | inr past ↦ absurd (subst (ShowsPage p core.slots (pages.Data s.sid v)) (data_hit s s.sid v refl ∙ get_past s.«data» v past) (shows.pages (pages.Data s.sid v) refl) l)
  ]

  data_shown : length s.«data» ≡ data_count p s.sid
  data_shown = same_size (length s.«data») (data_count p s.sid) data_in data_only

  stack_in : (v : ℕ) → v < length s.stack → v < stack_count p s.sid
  stack_in v l =
      let x = get_within s.stack v l in
      (subst (ShowsPage p core.slots (pages.Stack s.sid v)) (stack_hit s s.sid v refl ∙ x.1) (shows.pages (pages.Stack s.sid v) refl)).0

  stack_only : (v : ℕ) → v < stack_count p s.sid → v < length s.stack
  stack_only v l = elim (cases_lt v (length s.stack)) [
    | inl below ↦ below
    | inr past ↦ absurd (subst (ShowsPage p core.slots (pages.Stack s.sid v)) (stack_hit s s.sid v refl ∙ get_past s.stack v past) (shows.pages (pages.Stack s.sid v) refl) l)
  ]

  stack_shown : length s.stack ≡ stack_count p s.sid
  stack_shown = same_size (length s.stack) (stack_count p s.sid) stack_in stack_only

  text_in : (v : ℕ) → v < length s.text → v < length (slots_of p (pages.Text s.image 0))
  text_in v l =
      let x = get_within s.text v l in
      (subst (ShowsPage p core.slots (pages.Text s.image v)) (text_hit s s.image v refl ∙ x.1) (shows.pages (pages.Text s.image v) refl)).0

  text_only : (v : ℕ) → v < length (slots_of p (pages.Text s.image 0)) → v < length s.text
  text_only v l = elim (cases_lt v (length s.text)) [
    | inl below ↦ below
    | inr past ↦ absurd (subst (ShowsPage p core.slots (pages.Text s.image v)) (text_hit s s.image v refl ∙ get_past s.text v past) (shows.pages (pages.Text s.image v) refl) l)
  ]

  text_shown : length s.text ≡ length (slots_of p (pages.Text s.image 0))
  text_shown = same_size (length s.text) (length (slots_of p (pages.Text s.image 0))) text_in text_only

  pub data_counted : (sid : ℕ) → s.sid ≡ sid → length s.«data» ≡ data_count p sid
  data_counted sid e = data_shown ∙ ap (data_count p) e

  pub stack_counted : (sid : ℕ) → s.sid ≡ sid → length s.stack ≡ stack_count p sid
  stack_counted sid e = stack_shown ∙ ap (stack_count p) e

  pub text_counted : (image : ℕ) → s.image ≡ image → length s.text ≡ length (slots_of p (pages.Text image 0))
  text_counted image e = text_shown ∙ ap (λ (i : ℕ). length (slots_of p (pages.Text i 0))) e

pub rounded_up : (n : ℕ) → n / 1024 + min 1 (n % 1024) ≡ pages_for n
rounded_up n = omega arith

-- What is asked.

none_further : (sid old new : ℕ) → new ≤ old → further (owners.Data sid) old new ≡ []
none_further sid old new l = ap (wanted (owners.Data sid)) (drop_past (length (pieces (2 * old))) (pieces (2 * new)) (pieces_mono (2 * new) (2 * old) (omega arith)))

same_stack : (sid n : ℕ) → further (owners.Stack sid) n n ≡ []
same_stack sid n = ap (wanted (owners.Stack sid)) (drop_past (length (pieces (2 * n))) (pieces (2 * n)) (omega arith))

-- with the stack's pages as they are and no more data none
pub none_asked : (images : List Image) (p : Placement) (sid next pages : ℕ) → pages ≤ data_count p sid
    → change_asks images p sid next (Resize pages (stack_count p sid)) ≡ []
none_asked images p sid next pages l =
    ap (λ (xs : List Wanted). xs ++ further (owners.Stack sid) (stack_count p sid) (stack_count p sid)) (none_further sid (data_count p sid) pages l)
    ∙ same_stack sid (stack_count p sid)

abbrev data_want : ℕ → ℕ → List Want
data_want sid pages = (let w : Want = record { owner = owners.Data sid; blocks = 2 * pages } in w) ∷ []

-- with more data the pieces beyond those that are held
pub data_asked : (images : List Image) (p : Placement) (hs : Holdings) (sid next pages : ℕ) → lengths (owners.Data sid) hs ≡ pieces (2 * data_count p sid)
    → change_asks images p sid next (Resize pages (stack_count p sid)) ≡ wanted_of hs (data_want sid pages)
data_asked images p hs sid next pages held =
    let count : length (pieces (2 * data_count p sid)) ≡ length (of_owner (owners.Data sid) hs) =
    sym (ap (λ (xs : List ℕ). length xs) held) ∙ length_map (λ (h : Held). h.length) (of_owner (owners.Data sid) hs) in
    ap (λ (xs : List Wanted). further (owners.Data sid) (data_count p sid) pages ++ xs) (same_stack sid (stack_count p sid))
    ∙ ap (λ (n : ℕ). wanted (owners.Data sid) (drop n (pieces (2 * pages))) ++ []) count

-- The change may be made.

module _ (n : Standing) (pid : ℕ) (regs : Regs) (lends : CanLend n.kernel pid) where
  has_space : HasSpace n.kernel.place (space_of_pid n.kernel pid)
  has_space = subst (HasSpace n.kernel.place) (sym (ap space_of_life lends.holds)) lends.there

  pub can_size : (wanted stack : ℕ) → n.kernel.place.due ≡ []
      → (LosesPages n.kernel.place (space_of_pid n.kernel pid) wanted stack → is_settled n.kernel.place (space_of_pid n.kernel pid) ≡ true)
      → wanted ≤ 4096 → stack ≤ 512
      → place_all n.params.swap_blocks n.before (asked (facts_named n.images) n.kernel pid (Resize wanted stack)) ≡ Ok n.kernel.holdings
      → CanApply n pid (call_entry pid Break regs) (Resize wanted stack)
  can_size wanted stack clear settles few short found = record {
    clear = clear;
    ready = record { alive = caller_lives n.kernel pid lends; next = tt; reaps = tt; space = (has_space, settles) };
    acts = subst (λ (l : Life). MayAct l (Resize wanted stack)) (sym lends.holds) tt;
    resident = lends.resident;
    returned = λ t. absurd cc;
    entry = (refl, tt);
    whole = (few, short);
    few = λ t. absurd cc;
    found = found;
  }

none_placed : (size : ℕ) (before now : Holdings) (ws : List Wanted) → before ≡ now → ws ≡ [] → place_all size before ws ≡ Ok now
unfolding place_all
none_placed size before now ws e none = ap (place_all size before) none ∙ ap (λ (hs : Holdings). Ok hs) e

module _ (m : Standing) (pid : ℕ) (regs : Regs) (c : IsCaller m pid) (wanted stack : ℕ) (is : stack ≡ process_stack_pages m.kernel pid) (short : stack ≤ 512) (few : wanted ≤ 4096) where
  -- with as many pages as before
  pub can_stay : wanted ≡ process_data_pages m.kernel pid → CanApply m pid (call_entry pid Break regs) (Resize wanted stack)
  can_stay same =
      can_size m pid regs c.lends wanted stack c.clear
      (λ loses. elim loses [
        | inl l ↦ absurd (omega (arith, l, same))
        | inr l ↦ absurd (omega (arith, l, is))
      ])
      few short
      (none_placed m.params.swap_blocks m.before m.kernel.holdings (asked (facts_named m.images) m.kernel pid (Resize wanted stack)) c.ready.whole
      (ap (λ (t : ℕ). asked (facts_named m.images) m.kernel pid (Resize wanted t)) is
      ∙ none_asked (facts_named m.images) m.kernel.place (space_of_pid m.kernel pid) m.kernel.next_sid wanted (omega (arith, same))))

  -- with more, whose pieces are found
  module _ (sid : ℕ) (own : sid ≡ space_of_pid m.kernel pid) where
    held : lengths (owners.Data (space_of_pid m.kernel pid)) m.kernel.holdings ≡ pieces (2 * process_data_pages m.kernel pid)
    held = ap (λ (hs : Holdings). lengths (owners.Data (space_of_pid m.kernel pid)) hs) (sym c.ready.whole) ∙ c.ready.running.sound.owner.blocks.data_held (space_of_pid m.kernel pid)

    asks : asked (facts_named m.images) m.kernel pid (Resize wanted stack) ≡ wanted_of m.kernel.holdings (data_want sid wanted)
    asks =
        ap (λ (t : ℕ). asked (facts_named m.images) m.kernel pid (Resize wanted t)) is
        ∙ data_asked (facts_named m.images) m.kernel.place m.kernel.holdings (space_of_pid m.kernel pid) m.kernel.next_sid wanted held
        ∙ ap (λ (x : ℕ). wanted_of m.kernel.holdings (data_want x wanted)) (sym own)

    pub finds : pieces_found m pid wanted ≡ found_for m.params.swap_blocks m.kernel.holdings (data_want sid wanted)
    finds =
        ap (λ (t : ℕ). place_all m.params.swap_blocks m.kernel.holdings (asked (facts_named m.images) m.kernel pid (Resize wanted t))) (sym is)
        ∙ ap (place_all m.params.swap_blocks m.kernel.holdings) asks

    pub can_grow : (n : Standing) (hs : Holdings) → found_for m.params.swap_blocks m.kernel.holdings (data_want sid wanted) ≡ Ok hs → n ≡ with_pieces m hs
        → process_data_pages m.kernel pid < wanted → CanApply n pid (call_entry pid Break regs) (Resize wanted stack)
    can_grow n hs found e more =
        subst (λ (x : Standing). CanApply x pid (call_entry pid Break regs) (Resize wanted stack)) (sym e)
        (can_size (with_pieces m hs) pid regs (record { sid = c.lends.sid; holds = c.lends.holds; there = c.lends.there; resident = c.lends.resident }) wanted stack c.clear
        (λ loses. elim loses [
          | inl l ↦ absurd (omega (arith, l, more))
          | inr l ↦ absurd (omega (arith, l, is))
        ])
        few short
        (ap (λ (b : Holdings). place_all m.params.swap_blocks b (asked (facts_named m.images) m.kernel pid (Resize wanted stack))) c.ready.whole
        ∙ ap (place_all m.params.swap_blocks m.kernel.holdings) asks ∙ found))

-- with fewer, once the space is settled

further_by : (owner : Owner) (a b new : ℕ) → pieces (2 * a) ≡ pieces (2 * b) → further owner a new ≡ further owner b new
further_by owner a b new e = ap (λ (xs : List ℕ). wanted owner (drop (length xs) (pieces (2 * new)))) e

module _ (m n : Standing) (pid : ℕ) (regs : Regs) (c : IsCaller m pid) (holds : Option (List NamedFile)) (before after : Option SwapImage)
    (s : HasSettled m n (space_of_pid m.kernel pid) holds before after) where
  on : GoesOn m.kernel n.kernel
  on = settled_goes (sources m holds) (space_of_pid m.kernel pid) m.kernel n.kernel before after s.settled

  same_space : space_of_pid n.kernel pid ≡ space_of_pid m.kernel pid
  same_space = ap (λ (ps : List Proc). space_of_life (life_of_proc (numbered (λ (p : Proc). p.pid) pid ps))) on.processes

  lends_on : CanLend n.kernel pid
  lends_on = record {
    sid = c.lends.sid;
    holds = ap (λ (ps : List Proc). life_of_proc (numbered (λ (p : Proc). p.pid) pid ps)) on.processes ∙ c.lends.holds;
    there = space_stays m.kernel.place n.kernel.place c.lends.sid on.spaces c.lends.there;
    resident = same_out m.kernel.place n.kernel.place pid on.residents ∙ c.lends.resident;
  }

  module _ (since : ℕ) (later : Sound since (record n.kernel { holdings = n.before })) where
    same_data : (sid : ℕ) → pieces (2 * data_count n.kernel.place sid) ≡ pieces (2 * data_count m.kernel.place sid)
    same_data sid =
        sym (later.owner.blocks.data_held sid) ∙ ap (λ (hs : Holdings). lengths (owners.Data sid) hs) s.rest.before ∙ c.ready.running.sound.owner.blocks.data_held sid

    same_stacks : (sid : ℕ) → pieces (2 * stack_count n.kernel.place sid) ≡ pieces (2 * stack_count m.kernel.place sid)
    same_stacks sid =
        sym (later.owner.blocks.stack_held sid) ∙ ap (λ (hs : Holdings). lengths (owners.Stack sid) hs) s.rest.before ∙ c.ready.running.sound.owner.blocks.stack_held sid

    still_none : (images : List Image) (sid next wanted : ℕ) → wanted ≤ data_count m.kernel.place sid
        → change_asks images n.kernel.place sid next (Resize wanted (stack_count m.kernel.place sid)) ≡ []
    still_none images sid next wanted l =
        ap (λ (xs : List Wanted). xs ++ further (owners.Stack sid) (stack_count n.kernel.place sid) (stack_count m.kernel.place sid))
        (further_by (owners.Data sid) (data_count n.kernel.place sid) (data_count m.kernel.place sid) wanted (same_data sid) ∙ none_further sid (data_count m.kernel.place sid) wanted l)
        ∙ further_by (owners.Stack sid) (stack_count n.kernel.place sid) (stack_count m.kernel.place sid) (stack_count m.kernel.place sid) (same_stacks sid)
        ∙ same_stack sid (stack_count m.kernel.place sid)

    pub can_cut : (wanted stack : ℕ) → stack ≡ process_stack_pages m.kernel pid → stack ≤ 512 → wanted ≤ 4096 → wanted < process_data_pages m.kernel pid
        → CanApply n pid (call_entry pid Break regs) (Resize wanted stack)
    can_cut wanted stack is short few fewer =
        can_size n pid regs lends_on wanted stack (on.due ∙ c.clear) (λ _. ap (is_settled n.kernel.place) same_space ∙ s.settled.settled) few short
        (none_placed n.params.swap_blocks n.before n.kernel.holdings (asked (facts_named n.images) n.kernel pid (Resize wanted stack)) (s.rest.before ∙ c.ready.whole ∙ sym on.holdings)
        (ap (λ (t : ℕ). asked (facts_named n.images) n.kernel pid (Resize wanted t)) is
        ∙ ap (λ (x : ℕ). change_asks (facts_named n.images) n.kernel.place x n.kernel.next_sid (Resize wanted (process_stack_pages m.kernel pid))) same_space
        ∙ still_none (facts_named n.images) (space_of_pid m.kernel pid) n.kernel.next_sid wanted (omega (arith, fewer))))

-- The reply.

pub replies : (k : Kernel) (pid : ℕ) (regs : Regs) (wanted stack : ℕ) → wanted ≤ 4096 → stack ≡ process_stack_pages k pid
    → Does (replied regs false 0) (Resize wanted stack) ≡ break_at k pid regs wanted
replies k pid regs wanted stack few is =
    ap (λ (t : ℕ). Does (replied regs false 0) (Resize wanted t)) is
    ∙ sym (ap (λ (b : Bool). break_by b regs wanted (process_stack_pages k pid)) (le-leb wanted 4096 few))

pub fails : (k : Kernel) (pid : ℕ) (regs : Regs) (wanted : ℕ) → 4096 < wanted → Fails 12 ≡ break_at k pid regs wanted
fails k pid regs wanted many = sym (ap (λ (b : Bool). break_by b regs wanted (process_stack_pages k pid)) (lt-leb wanted 4096 many))
