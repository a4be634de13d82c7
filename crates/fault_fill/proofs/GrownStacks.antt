-- The stack of a process grows: what its entry asks, and how the machine stands after it.
use Rattle.std.proofs.Common.{◌≡◌, ◌≢◌, inl, inr, ℕ, ◌-◌, ◌*◌, ◌<◌, ◌≤◌, true, false, List, [], ◌∷◌, ◌++◌, length, Option, Some, None, Ok, refl, sym, ap, ◌∙◌, subst, arith}
use Rattle.std.specs.Prelude.{is_ok}
use Rattle.vm_facts.specs.declared.page.Page.TheVariants as page_names
use Rattle.vm_facts.specs.declared.entry.Entry.TheVariants.{Grew, Refused}
use Rattle.swap_dmap.specs.Chunks.{pieces}
use Rattle.swap_book.specs.declared.Owner.TheVariants as owners
use Rattle.swap_book.specs.Holdings.{Holdings, lengths}
use Rattle.swap_book.specs.Placing.{place_all}
use Rattle.flat_state.specs.declared.change.Change.TheVariants.{Resize}
use Rattle.page_model.specs.Pages.{SpacePages, numbered, stack_in}
use Rattle.page_model.specs.Placement.{Placement, Due, space_number, slots_of, due_of_page}
use Rattle.page_model.specs.Conditions.{LosesPages}
use Rattle.page_model.specs.Moves.{drop_all}
use Rattle.page_model.specs.Place.{data_count, stack_count, data_from, stack_from, cut_space, resize}
use Rattle.page_laws.proofs.Lists.Pages.{mapped, changed_same}
use Rattle.page_laws.proofs.Bytes.Changes.{length_sized}
use Rattle.kernel_model.specs.Kernel.{Life, HoldsSpace, Kernel, Proc, note_step}
use Rattle.kernel_model.specs.Asks.{HasSpace, asked}
use Rattle.kernel_model.specs.Sound.{has_life, lives_in}
use Rattle.kernel_model.specs.ChangeStep.{space_of_life, life_of_proc, change_if, change_by}
use Rattle.kernel_model.specs.Unit.{proc_of}
use Rattle.page_laws.proofs.Ownership.Changes.{cut}
use Rattle.clock_hands.specs.LastMoves.{last_moves}
use Rattle.clock_hands.proofs.LastMoves.{last_of}
use Rattle.clock_hands.specs.Going.{CanGoOn}
use Rattle.clock_hands.specs.Want.{Want}
use Rattle.clock_hands.specs.Machine.{Standing}
use Rattle.clock_hands.specs.Wants.{wanted_of, found_for, fits_for}
use Rattle.clock_hands.specs.Conditions.{KeepsFlat, SameEverywhere}
use Rattle.clock_hands.specs.Applying.{CanApply, MayAct, facts_named}
use Rattle.clock_hands.specs.UserMemory.{CanLend}
use Rattle.fault_fill.specs.Growth.{space_of_pid, IsGrowth, growth, growth_found, with_pieces, Grown, GrowthRefused}
use Rattle.fault_fill.specs.Serving.{CanServe}
use Rattle.fault_fill.specs.Touches.{MayServePage}
use Rattle.fault_fill.proofs.Grows.{growth_asked}
use Rattle.fault_fill.proofs.Touching.{held_there}

-- The pieces.

abbrev pub stack_want : ℕ → ℕ → List Want
stack_want sid pages = record { owner = owners.Stack sid; blocks = 2 * pages } ∷ []

own_wants : (m : Standing) (pid pages : ℕ)
    → lengths (owners.Stack (space_of_pid m.kernel pid)) m.kernel.holdings ≡ pieces (2 * stack_count m.kernel.place (space_of_pid m.kernel pid))
    → asked (facts_named m.images) m.kernel pid (growth m.kernel pid pages)
    ≡ wanted_of m.kernel.holdings (stack_want (space_of_pid m.kernel pid) pages)
own_wants m pid pages held = growth_asked (facts_named m.images) m.kernel.place m.kernel.holdings (space_of_pid m.kernel pid) m.kernel.next_sid pages held

-- what is found for the one request is what growth asks for
pub wants_found : (m : Standing) (pid sid pages : ℕ) → CanGoOn m → IsGrowth m.kernel.place (space_of_pid m.kernel pid) sid pages
    → growth_found m pid pages ≡ found_for m.params.swap_blocks m.kernel.holdings (stack_want sid pages)
wants_found m pid sid pages ready g =
    ap (place_all m.params.swap_blocks m.kernel.holdings)
    (own_wants m pid pages (sym (ap (lengths (owners.Stack (space_of_pid m.kernel pid))) ready.whole) ∙ ready.running.sound.owner.blocks.stack_held (space_of_pid m.kernel pid))
    ∙ ap (λ (n : ℕ). wanted_of m.kernel.holdings (stack_want n pages)) (sym g.own))

pub refused_growth : (m n : Standing) (pid sid pages : ℕ) → CanGoOn m → IsGrowth m.kernel.place (space_of_pid m.kernel pid) sid pages
    → false ≡ fits_for m.params.swap_blocks m.kernel.holdings (stack_want sid pages)
    → n ≡ record m { kernel = note_step m.kernel (Refused pid); room = None } → KeepsFlat m.kernel n.kernel → SameEverywhere m.kernel n.kernel
    → GrowthRefused m n pid pages
refused_growth m n pid sid pages ready g none machine keeps same = record {
  none = ap is_ok (wants_found m pid sid pages ready g) ∙ sym none;
  machine = machine;
  keeps = keeps;
  same = same;
}

-- What the entry asks.

pub lives_by : (o : Option Proc) (sid : ℕ) → life_of_proc o ≡ HoldsSpace sid → lives_in o ≡ true
lives_by None sid e = absurd cc
lives_by (Some p) sid e = ap has_life e

none_lost : (p : Placement) (held sid pages : ℕ) → IsGrowth p held sid pages → LosesPages p held (data_count p held) pages → ⊥
none_lost p held sid pages g (inl l) = omega arith
none_lost p held sid pages g (inr l) = let a = g.more in let b = ap (stack_count p) g.own in omega arith

module _ (m : Standing) (pid sid pages : ℕ) (ready : CanGoOn m) (clear : m.kernel.place.due ≡ []) (lends : CanLend m.kernel pid)
    (g : IsGrowth m.kernel.place (space_of_pid m.kernel pid) sid pages) where
  can_apply : (hs : Holdings) → growth_found m pid pages ≡ Ok hs → data_count m.kernel.place (space_of_pid m.kernel pid) ≤ 4096
      → CanApply (with_pieces m hs) pid (Grew pid pages) (growth m.kernel pid pages)
  can_apply hs finds small = record {
    clear = clear;
    ready = record {
      alive = lives_by (proc_of m.kernel pid) lends.sid lends.holds;
      next = tt;
      reaps = tt;
      space = (held_there m.kernel pid lends, λ loses. absurd (none_lost m.kernel.place (space_of_pid m.kernel pid) sid pages g loses));
    };
    acts = subst (λ (l : Life). MayAct l (growth m.kernel pid pages)) (sym lends.holds) tt;
    resident = lends.resident;
    returned = λ t. absurd cc;
    entry = (refl, refl);
    whole = (small, g.few);
    few = λ t. absurd cc;
    found = ap (λ (xs : Holdings). place_all m.params.swap_blocks xs (asked (facts_named m.images) m.kernel pid (growth m.kernel pid pages))) ready.whole ∙ finds;
  }

  pub can_grow : (a : Standing) (d : ℕ) (hs : Holdings) → growth_found m pid pages ≡ Ok hs → a ≡ with_pieces m hs
      → d ≡ data_count m.kernel.place (space_of_pid m.kernel pid) → d ≤ 4096 → CanApply a pid (Grew pid pages) (Resize d pages)
  can_grow a d hs finds is count small =
      subst (λ (s : Standing). CanApply s pid (Grew pid pages) (Resize d pages)) (sym is)
      (subst (λ (n : ℕ). CanApply (with_pieces m hs) pid (Grew pid pages) (Resize n pages)) (sym count) (can_apply hs finds (omega arith)))

-- The page that is asked for is there after growth.

none_less : (a b : ℕ) → a ≤ b → a - b ≡ 0
none_less a b l = omega arith

only_cut : (p : Placement) (sid d pages : ℕ) → data_count p sid ≤ d → stack_count p sid ≤ pages → resize p sid d pages ≡ cut_space p sid d pages
only_cut p sid d pages l k =
    ap (λ (n : ℕ). cut_space (drop_all p (data_from sid d n ++ stack_from sid pages (stack_count p sid - pages))) sid d pages) (none_less (data_count p sid) d l)
    ∙ ap (λ (n : ℕ). cut_space (drop_all p (stack_from sid pages n)) sid d pages) (none_less (stack_count p sid) pages k)

cut_stack : (o : Option SpacePages) (d pages : ℕ) → o ≢ None → length (stack_in (mapped (cut d pages) o)) ≡ pages
cut_stack None d pages there = absurd (there refl)
cut_stack (Some s) d pages there = length_sized pages s.stack_pages

stack_cut : (p : Placement) (sid d pages : ℕ) → HasSpace p sid → length (slots_of (cut_space p sid d pages) (page_names.Stack sid 0)) ≡ pages
stack_cut p sid d pages there =
    ap (λ (o : Option SpacePages). length (stack_in o)) (changed_same space_number sid (cut d pages) (λ s. refl) p.spaces)
    ∙ cut_stack (numbered space_number sid p.spaces) d pages there

serves_new : (p : Placement) (sid d pages : ℕ) → HasSpace p sid → p.due ≡ [] → 0 < pages → CanServe (cut_space p sid d pages) (page_names.Stack sid (pages - 1))
serves_new p sid d pages there clear some = record {
  there = let a = stack_cut p sid d pages there in omega arith;
  shared = tt;
  fresh = ap (λ (ds : List Due). due_of_page ds (page_names.Stack sid (pages - 1))) clear;
  blank = λ e. clear;
}

held_is : (k : Kernel) (pid : ℕ) (process : Proc) → proc_of k pid ≡ Some process → space_of_pid k pid ≡ space_of_life process.life
held_is k pid process there = ap (λ (o : Option Proc). space_of_life (life_of_proc o)) there

module _ (m n : Standing) (pid sid pages : ℕ) (h : Grown m n pid pages) (lends : CanLend m.kernel pid)
    (g : IsGrowth m.kernel.place (space_of_pid m.kernel pid) sid pages) where
  abbrev before : Kernel
  before = record m.kernel { holdings = h.found }

  step_is : n.kernel ≡ change_by (facts_named m.images) before h.process (Grew pid pages) (growth m.kernel pid pages)
  step_is = h.step ∙ ap (change_if (facts_named m.images) before h.process.regs (Grew pid pages) (growth m.kernel pid pages)) h.there

  place_is : n.kernel.place ≡ cut_space m.kernel.place sid (data_count m.kernel.place (space_of_pid m.kernel pid)) pages
  place_is =
      ap (λ (k : Kernel). k.place) step_is
      ∙ ap (λ (i : ℕ). resize m.kernel.place i (data_count m.kernel.place (space_of_pid m.kernel pid)) pages) (sym (held_is m.kernel pid h.process h.there) ∙ sym g.own)
      ∙ only_cut m.kernel.place sid (data_count m.kernel.place (space_of_pid m.kernel pid)) pages (let a = ap (data_count m.kernel.place) g.own in omega arith) (let a = g.more in omega arith)

  pub grown_ready : CanGoOn n → m.kernel.place.due ≡ [] → MayServePage (page_names.Stack sid (pages - 1)) m n
  grown_ready ready clear = record {
    ready = ready;
    params = ap (λ (s : Standing). s.params) h.rest;
    images = ap (λ (s : Standing). s.images) h.rest;
    holds = ap (λ (p : Placement). p.holds) place_is;
    low =
        let a : last_moves n.kernel.journal ≡ 0 = ap (λ (k : Kernel). last_moves k.journal) step_is ∙ last_of m.kernel.journal (Grew pid pages) in
        omega arith;
    can = subst (λ (p : Placement). CanServe p (page_names.Stack sid (pages - 1))) (sym place_is)
        (serves_new m.kernel.place sid (data_count m.kernel.place (space_of_pid m.kernel pid)) pages (subst (λ (i : ℕ). HasSpace m.kernel.place i) (sym g.own) (held_there m.kernel pid lends)) clear
        (let a = g.more in omega arith));
  }
