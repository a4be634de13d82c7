-- The pieces of the first processes are those of the flat state, and find their places alike.
use Rattle.std.proofs.Common.{◌≡◌, inl, inr, ℕ, suc, ◌+◌, ◌*◌, ◌==◌, ◌||◌, Bool, true, false, cond, List, [], ◌∷◌, ◌++◌, length, Option, Some, Result, Ok, Err, refl, sym, ap, ◌∙◌, subst, append_assoc, arith}
use Rattle.std.specs.Prelude.{is_ok}
use Rattle.vm_facts.specs.declared.page.Page.TheVariants.{Text}
use Rattle.vm_facts.specs.Lists.{times}
use Rattle.aout_image.specs.declared.Image.{Image}
use Rattle.aout_image.specs.Image.{text_pages_of, image_data_pages}
use Rattle.swap_dmap.specs.Chunks.{pieces}
use Rattle.swap_book.specs.declared.Owner.TheVariants as owners
use Rattle.swap_book.specs.Holdings.{Holdings}
use Rattle.swap_book.specs.Placing.{Wanted, wanted, place_all}
use Rattle.flat_state.specs.Flat.{NamedImage, Inputs}
use Rattle.flat_model.specs.Asked.{text_wanted, image_wanted, pieces_for, contains, first_then, first_wanted, first_held, start_held}
use Rattle.economy_laws.proofs.FlatLawsAsking.{text_same}
use Rattle.page_model.specs.Pages.{SpacePages}
use Rattle.page_model.specs.Placement.{slots_of, sharers, sharers_in, new_pages}
use Rattle.kernel_model.specs.Asks.{text_asked, begin_asks}
use Rattle.kernel_model.specs.Kernel.{Kernel}
use Rattle.machine_state.specs.Beginning.{StartedFirst, FindsNoPlace}
use Rattle.machine_state.specs.Machine.{Standing}
use Rattle.machine_state.specs.Sourced.{ImageNamed, named_at}
use Rattle.proc_run.specs.Reading.{AreNamed}
use Rattle.vm_core.specs.declared.first_processes.Started.{Started}
use Rattle.vm_core.specs.declared.first_processes.Started.TheVariants as starteds
use Rattle.vm_core.specs.FirstProcesses.{IsNew, StartsFrom, started_by}
use Rattle.vm_core.specs.Beginning.{BeginsAll, LacksPlace, BeginsUntil, Begins}
use Rattle.vm_core.proofs.Images.{IsImage, image_is, text_slots}

-- Whether an image started before.

contains_none : (ns : List ℕ) (n : ℕ) → times n ns ≡ 0 → contains ns n ≡ false
contains_none [] n e = refl
contains_none (k ∷ ns) n e = go (k == n) e (contains_none ns n)
  where
    go : (b : Bool) → cond b 1 0 + times n ns ≡ 0 → (times n ns ≡ 0 → contains ns n ≡ false) → (b || contains ns n) ≡ false
    go true h more = absurd (omega (arith, h))
    go false h more = more (omega (arith, h))

contains_some : (ns : List ℕ) (n m : ℕ) → times n ns ≡ suc m → contains ns n ≡ true
contains_some [] n m e = absurd (omega (arith, e))
contains_some (k ∷ ns) n m e = go (k == n) e (contains_some ns n m)
  where
    go : (b : Bool) → cond b 1 0 + times n ns ≡ suc m → (times n ns ≡ suc m → contains ns n ≡ true) → (b || contains ns n) ≡ true
    go true h more = refl
    go false h more = more (omega (arith, h))

-- A machine in which processes of these images began, the last one first, and the next one has this number.
pub record IsBehind (A : Inputs) (earlier : List ℕ) (pid : ℕ) (m : Standing) : Type 0 where
  pub number : m.kernel.next_pid ≡ pid
  pub sharing : (i : ℕ) → sharers m.kernel.place i ≡ times i earlier
  pub sizes : (i : ℕ) (there : ImageNamed) → named_at m.images i ≡ Some there → length (slots_of m.kernel.place (Text i 0)) ≡ text_pages_of there.facts
  pub images : AreNamed A.images m.images
  pub blocks : m.params.swap_blocks ≡ A.swap_blocks

pub new_behind : (A : Inputs) (m : Standing) (numbers : List ℕ) → IsNew m → StartsFrom A m numbers → IsBehind A [] 1 m
new_behind A m numbers n s = record {
  number = ap (λ (k : Kernel). k.next_pid) n.kernel;
  sharing = λ i. ap (λ (k : Kernel). sharers k.place i) n.kernel;
  sizes = λ i there e. ap (λ (k : Kernel). length (slots_of k.place (Text i 0))) n.kernel ∙ text_slots m.images i there e;
  images = s.named;
  blocks = sym s.blocks;
}

sharers_more : (i : ℕ) (ss : List SpacePages) (s : SpacePages) → sharers_in i (ss ++ s ∷ []) ≡ cond (s.image == i) 1 0 + sharers_in i ss
sharers_more i [] s = refl
sharers_more i (x ∷ ss) s = let ih = sharers_more i ss s in omega (arith, ih)

pub next_behind : (A : Inputs) (earlier : List ℕ) (pid n : ℕ) (old next : Standing) → IsBehind A earlier pid old → StartedFirst old next n
    → IsBehind A (n ∷ earlier) (pid + 1) next
next_behind A earlier pid n old next b s = subst (IsBehind A (n ∷ earlier) (pid + 1)) (sym s.step) (record {
  number = ap (λ (m : ℕ). m + 1) b.number;
  sharing = λ i. sharers_more i old.kernel.place.spaces (new_pages old.kernel.next_pid n s.named.facts) ∙ ap (λ (m : ℕ). cond (n == i) 1 0 + m) (b.sharing i);
  sizes = b.sizes;
  images = b.images;
  blocks = b.blocks;
})

-- The pieces.

asks_as : (A : Inputs) (earlier : List ℕ) (pid n : ℕ) (m : Standing) (there : ImageNamed) → IsBehind A earlier pid m → named_at m.images n ≡ Some there
    → begin_asks m.kernel.place m.kernel.next_pid n there.facts ≡ first_wanted A.images (contains earlier n) pid n
asks_as A earlier pid n m there b e =
    ap (λ (p : ℕ). begin_asks m.kernel.place p n there.facts) b.number
    ∙ ap (λ (f : Image). (asked ++ (wanted (owners.Data pid) (pieces (2 * image_data_pages f)) ++ stack)) ++ u) (sym i.facts)
    ∙ ap (λ (t : List Wanted). (t ++ (bytes ++ stack)) ++ u) text
    ∙ ap (λ (ws : List Wanted). ws ++ u) (sym (append_assoc (text_wanted (contains earlier n) n i.named.image) bytes stack))
    ∙ sym (ap (λ (o : Option NamedImage). image_wanted (contains earlier n) pid n o ++ u) i.is)
  where
    i : IsImage A.images n there
    i = image_is A.images m.images n there b.images e

    asked : List Wanted
    asked = text_asked (sharers m.kernel.place n) n (2 * length (slots_of m.kernel.place (Text n 0)))

    bytes : List Wanted
    bytes = pieces_for (owners.Data pid) (image_data_pages i.named.image.facts)

    stack : List Wanted
    stack = pieces_for (owners.Stack pid) 1

    u : List Wanted
    u = pieces_for (owners.U pid) 1

    text : text_asked (sharers m.kernel.place n) n (2 * length (slots_of m.kernel.place (Text n 0))) ≡ text_wanted (contains earlier n) n i.named.image
    text = text_same n (sharers m.kernel.place n) (2 * length (slots_of m.kernel.place (Text n 0))) (contains earlier n) i.named
        (λ z. contains_none earlier n (sym (b.sharing n) ∙ z)) (λ k z. contains_some earlier n k (sym (b.sharing n) ∙ z))
        (ap (λ (c : ℕ). 2 * c) (b.sizes n there e ∙ sym (ap (λ (f : Image). text_pages_of f) i.facts)))

-- they find their places, or not, as those of the flat state
found_as : (A : Inputs) (earlier : List ℕ) (pid n : ℕ) (m : Standing) (there : ImageNamed) → IsBehind A earlier pid m → named_at m.images n ≡ Some there
    → place_all A.swap_blocks m.kernel.holdings (first_wanted A.images (contains earlier n) pid n)
    ≡ place_all m.params.swap_blocks m.kernel.holdings (begin_asks m.kernel.place m.kernel.next_pid n there.facts)
found_as A earlier pid n m there b e =
    ap (λ (size : ℕ). place_all size m.kernel.holdings (first_wanted A.images (contains earlier n) pid n)) (sym b.blocks)
    ∙ ap (place_all m.params.swap_blocks m.kernel.holdings) (sym (asks_as A earlier pid n m there b e))

pub all_held : (A : Inputs) (ns earlier : List ℕ) (pid : ℕ) (old new : Standing) → IsBehind A earlier pid old → BeginsAll ns old new
    → first_held A earlier pid ns old.kernel.holdings ≡ Ok new.kernel.holdings
unfolding first_held
all_held A [] earlier pid old new b h = ap (λ (m : Standing). let r : Result Holdings ℕ = Ok m.kernel.holdings in r) (sym h)
all_held A (n ∷ ns) earlier pid old new b h =
    let next : Standing = h.0 in
    let s : StartedFirst old next n = h.1 in
    ap (λ (r : Result Holdings ℕ). first_then pid r (first_held A (n ∷ earlier) (pid + 1) ns)) (found_as A earlier pid n old s.named b s.is ∙ s.pieces)
    ∙ ap (first_held A (n ∷ earlier) (pid + 1) ns) (sym (ap (λ (m : Standing). m.kernel.holdings) s.step))
    ∙ all_held A ns (n ∷ earlier) (pid + 1) next new (next_behind A earlier pid n old next b s) h.2

not_found : (pid : ℕ) (r : Result Holdings ℕ) (f : Holdings → Result Holdings ℕ) → is_ok r ≡ false → first_then pid r f ≡ Err pid
not_found pid (Ok hs) f e = absurd cc
not_found pid (Err n) f e = refl

pub until_held : (A : Inputs) (ns earlier : List ℕ) (pid lacking : ℕ) (old new : Standing) → IsBehind A earlier pid old → BeginsUntil lacking ns old new
    → first_held A earlier pid ns old.kernel.holdings ≡ Err lacking
unfolding first_held
until_held A [] earlier pid lacking old new b h = absurd h
until_held A (n ∷ ns) earlier pid lacking old new b h = elim h [
  | inl x ↦
      let l : LacksPlace old n lacking = x.1 in
      let f : FindsNoPlace old n = l.pieces in
      not_found pid (place_all A.swap_blocks old.kernel.holdings (first_wanted A.images (contains earlier n) pid n)) (first_held A (n ∷ earlier) (pid + 1) ns)
      (ap (λ (r : Result Holdings ℕ). is_ok r) (found_as A earlier pid n old f.named b f.is) ∙ f.pieces)
      ∙ ap (λ (p : ℕ). let r : Result Holdings ℕ = Err p in r) (sym (l.number ∙ b.number))
  | inr x ↦
      let next : Standing = x.0 in
      let s : StartedFirst old next n = x.1 in
      ap (λ (r : Result Holdings ℕ). first_then pid r (first_held A (n ∷ earlier) (pid + 1) ns)) (found_as A earlier pid n old s.named b s.is ∙ s.pieces)
      ∙ ap (first_held A (n ∷ earlier) (pid + 1) ns) (sym (ap (λ (m : Standing). m.kernel.holdings) s.step))
      ∙ until_held A ns (n ∷ earlier) (pid + 1) lacking next new (next_behind A earlier pid n old next b s) x.2
]

-- The answer.

from_new : (A : Inputs) (m : Standing) (numbers : List ℕ) (r : Result Holdings ℕ) → IsNew m → StartsFrom A m numbers
    → first_held A [] 1 numbers m.kernel.holdings ≡ r → start_held A ≡ r
from_new A m numbers r n s e =
    ap (λ (ns : List ℕ). first_held A [] 1 ns []) s.first ∙ ap (first_held A [] 1 numbers) (sym (ap (λ (k : Kernel). k.holdings) n.kernel)) ∙ e

pub start_finds : (A : Inputs) (numbers : List ℕ) (old new : Standing) → IsNew old → StartsFrom A old numbers → BeginsAll numbers old new
    → start_held A ≡ Ok new.kernel.holdings
start_finds A numbers old new n s b = from_new A old numbers (Ok new.kernel.holdings) n s (all_held A numbers [] 1 old new (new_behind A old numbers n s) b)

pub answers_as : (A : Inputs) (started : Started) (numbers : List ℕ) (old new : Standing) → IsNew old → StartsFrom A old numbers
    → Begins started numbers old new → started ≡ started_by (start_held A)
answers_as A starteds.Ok numbers old new n s b = sym (ap started_by (start_finds A numbers old new n s b))
answers_as A (starteds.NoSpace pid) numbers old new n s b =
    sym (ap started_by (from_new A old numbers (Err pid) n s (until_held A numbers [] 1 pid old new (new_behind A old numbers n s) b)))
