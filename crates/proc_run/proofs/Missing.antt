-- The first byte that misses where some pages alone are shown is of the first touched page that is none of them.
use Rattle.std.proofs.Common.{◌≡◌, ◌⊎◌, inl, inr, ℕ, ◌/◌, Bool, true, false, List, [], ◌∷◌, ◌++◌, filter_map, Option, Some, None, Err, refl, sym, ap, ◌∙◌, subst}
use Rattle.std.specs.List.{cons_option}
use Rattle.std.proofs.lemmas.List.Elements.{filter_map-append}
use Rattle.vm_facts.specs.Answers.{Answers}
use Rattle.vm_facts.specs.declared.memory.ByteRead.{ByteRead}
use Rattle.vm_facts.specs.declared.memory.ByteRead.TheVariants as reads
use Rattle.vm_facts.specs.declared.memory.MayWrite.{MayWrite}
use Rattle.vm_facts.specs.declared.memory.MayWrite.TheVariants as tests
use Rattle.vm_facts.specs.declared.page.Page.{Page}
use Rattle.vm_facts.specs.declared.page.Page.TheVariants as pages
use Rattle.vm_facts.specs.declared.page.PageState.{PageState}
use Rattle.vm_facts.specs.declared.page.PageState.TheVariants.{Unfilled, Valid, Invalid, Coming, Going, OnSwap}
use Rattle.user_vax.specs.Program.{Program, run, ByteAccess, ReadOf, TestOf, accesses}
use Rattle.user_vax.specs.Laws.{refusal, EndsRefused, Covers, read_refusal, test_refusal}
use Rattle.user_vax.specs.declared.refused.Refused.TheVariants.{Miss}
use Rattle.user_vax.proofs.Order.{keeps_order, same_or_misses}
use Rattle.flat_state.specs.declared.spot.Spot.{Spot}
use Rattle.flat_state.specs.declared.spot.Spot.TheVariants as spots
use Rattle.flat_state.specs.PageNames.{is_among}
use Rattle.flat_state.specs.Space.{Space, address_in, answers_of}
use Rattle.page_model.specs.Pages.{is_valid}
use Rattle.page_model.specs.Placement.{image_of, state_of}
use Rattle.kernel_model.specs.Kernel.{Kernel}
use Rattle.machine_state.specs.UserMemory.{spot_in, page_at_spot, page_in, read_spot, may_write_by, may_write_spot}
use Rattle.flat_model.specs.Touched.{page_read, page_tested, page_of_access}
use Rattle.user_step.specs.Slots.{may_where}
use Rattle.flat_model.specs.Shown.{is_shown, read_where}
use Rattle.run_model.specs.Wanted.{AllValid}
use Rattle.step_units.proofs.Touching.{IsHit, AllHit, NotMissed, all_hit, granted_hit, Missing, read_missing, test_missing, SameSpots}
use Rattle.proc_run.specs.Shown.{shown_in}
use Rattle.flat_state.proofs.PageLists.{AllAmong}
use Rattle.economy_laws.proofs.Flows.{valid_among}
use Rattle.step_units.proofs.Instructing.{append_one, hit_both, append_none}

-- The page of an access.

-- what is read is of the page that the space has there
read_page_is : (k : Kernel) (x : Space) (image : image_of k.place x.sid ≡ x.image) (spot : Spot) → page_read x spot ≡ page_at_spot k.place x.sid spot
read_page_is k x e (spots.Text i) = ap (λ (n : ℕ). Some (pages.Text n (i / 1024))) (sym e)
read_page_is k x e (spots.Data i) = refl
read_page_is k x e (spots.Stack i) = refl
read_page_is k x e spots.Below = refl
read_page_is k x e spots.Outside = refl

-- where no page is asked for, it misses for none
may_miss : (s : PageState) → (may_write_by s ≡ tests.May) ⊎ (may_write_by s ≡ tests.Miss)
may_miss (Valid f) = inl refl
may_miss Unfilled = inr refl
may_miss (Invalid f) = inr refl
may_miss (Coming f) = inr refl
may_miss (Going f) = inr refl
may_miss OnSwap = inr refl

hidden_misses : (answer : MayWrite) → (answer ≡ tests.May) ⊎ (answer ≡ tests.Miss) → may_where false answer ≡ tests.Miss
hidden_misses answer (inl e) = ap (may_where false) e
hidden_misses answer (inr e) = ap (may_where false) e

-- what is tested is of the page that the space has there; where that is hidden it misses
record TestsPage (k : Kernel) (x : Space) (spot : Spot) (q : Page) : Type 0 where
  at : page_at_spot k.place x.sid spot ≡ Some q
  misses : may_where false (may_write_spot k.place x.sid spot) ≡ tests.Miss

tests_page : (k : Kernel) (x : Space) (spot : Spot) (q : Page) → page_tested x spot ≡ Some q → TestsPage k x spot q
tests_page k x (spots.Text i) q e = absurd cc
tests_page k x (spots.Data i) q e = record { at = e; misses = hidden_misses _ (may_miss (state_of k.place (pages.Data x.sid (i / 1024)))) }
tests_page k x (spots.Stack i) q e = record { at = e; misses = hidden_misses _ (may_miss (state_of k.place (pages.Stack x.sid (i / 1024)))) }
tests_page k x spots.Below q e = absurd cc
tests_page k x spots.Outside q e = absurd cc

-- the page of a test that misses since it is hidden
hidden_test : (k : Kernel) (x : Space) (spot : Spot) → may_where false (may_write_spot k.place x.sid spot) ≡ tests.Miss
    → (q : Page) × (page_tested x spot ≡ Some q)
hidden_test k x (spots.Text i) e = absurd cc
hidden_test k x (spots.Data i) e = (pages.Data x.sid (i / 1024), refl)
hidden_test k x (spots.Stack i) e = (pages.Stack x.sid (i / 1024), refl)
hidden_test k x spots.Below e = absurd cc
hidden_test k x spots.Outside e = absurd cc

-- An access that doesn't miss is of a page that is shown, or of none.

shown_of : (ps : List Page) (o : Option Page) (q : Page) → o ≡ Some q → is_shown ps o ≡ true → is_among q ps ≡ true
shown_of ps o q e h = sym (ap (is_shown ps) e) ∙ h

access_among : (k : Kernel) (x : Space) (e : SameSpots k x) (ps : List Page) (a : ByteAccess) (q : Page) → IsHit (refusal (shown_in k x.sid ps) a)
    → page_of_access x a ≡ Some q → is_among q ps ≡ true
access_among k x e ps (ReadOf a) q h p =
    let at : page_in k.place x.sid a ≡ Some q =
    ap (page_at_spot k.place x.sid) (e.spots a) ∙ sym (read_page_is k x e.image (address_in x a)) ∙ p in
    shown_of ps (page_in k.place x.sid a) q at (go (is_shown ps (page_in k.place x.sid a)) h)
  where
    go : (b : Bool) → IsHit (read_refusal (read_where b (read_spot k x.sid (spot_in k.place x.sid a))) a) → b ≡ true
    go true n = refl
    go false n = absurd n
access_among k x e ps (TestOf a) q h p =
    let t : TestsPage k x (address_in x a) q = tests_page k x (address_in x a) q p in
    shown_of ps (page_in k.place x.sid a) q (ap (page_at_spot k.place x.sid) (e.spots a) ∙ t.at)
    (go (is_shown ps (page_in k.place x.sid a)) (ap (λ (z : Spot). may_where false (may_write_spot k.place x.sid z)) (e.spots a) ∙ t.misses) h)
  where
    go : (b : Bool) → may_where false (may_write_spot k.place x.sid (spot_in k.place x.sid a)) ≡ tests.Miss
        → IsHit (test_refusal (may_where b (may_write_spot k.place x.sid (spot_in k.place x.sid a))) a) → b ≡ true
    go true m n = refl
    go false m n = absurd (subst (λ (answer : MayWrite). IsHit (test_refusal answer a)) m n)

pub hit_among : (k : Kernel) (x : Space) (e : SameSpots k x) (ps : List Page) (list : List ByteAccess) → AllHit (shown_in k x.sid ps) list
    → AllAmong ps (filter_map (page_of_access x) list)
hit_among k x e ps [] h = tt
hit_among k x e ps (a ∷ list) h = go (page_of_access x a) refl (hit_among k x e ps list h.1)
  where
    go : (o : Option Page) → page_of_access x a ≡ o → AllAmong ps (filter_map (page_of_access x) list) → AllAmong ps (cons_option o (filter_map (page_of_access x) list))
    go None p rest = rest
    go (Some q) p rest = (access_among k x e ps a q h.0 p, rest)

-- An access that misses is of a page that isn't shown, where all that are shown are valid.
record Beyond (k : Kernel) (x : Space) (ps : List Page) (a : ByteAccess) (address : ℕ) : Type 0 where
  page : Page
  of_access : page_of_access x a ≡ Some page
  new : is_among page ps ≡ false
  at : page_in k.place x.sid address ≡ Some page

not_shown : (ps : List Page) (o : Option Page) → is_shown ps o ≡ false → (q : Page) × (o ≡ Some q) × (is_among q ps ≡ false)
not_shown ps None e = absurd cc
not_shown ps (Some q) e = (q, refl, e)

-- a page that is shown is valid, so it doesn't miss
shown_valid : (k : Kernel) (x : Space) (ps : List Page) (o : Option Page) (spot : Spot) → AllValid k.place ps
    → is_shown ps (page_at_spot k.place x.sid spot) ≡ true → Missing k x o spot → ⊥
shown_valid k x ps o spot v h m =
    let valid : is_valid (state_of k.place m.page) ≡ true = valid_among k.place ps m.page v (shown_of ps (page_at_spot k.place x.sid spot) m.page m.of_spot h) in
    let absent = m.absent in
    cc

beyond : (k : Kernel) (x : Space) (e : SameSpots k x) (ps : List Page) (a : ByteAccess) (address : ℕ) (write : Bool) → AllValid k.place ps
    → refusal (shown_in k x.sid ps) a ≡ Some (Miss address write) → Beyond k x ps a address
beyond k x e ps (ReadOf b) address write v h = go (is_shown ps (page_in k.place x.sid b)) refl h
  where
    same : (r : ByteRead) → read_refusal r b ≡ Some (Miss address write) → b ≡ address
    same (reads.Is byte) m = absurd cc
    same reads.Miss m = cc
    same reads.Below m = absurd cc
    same reads.Outside m = absurd cc

    go : (s : Bool) → is_shown ps (page_in k.place x.sid b) ≡ s → read_refusal (read_where s (read_spot k x.sid (spot_in k.place x.sid b))) b ≡ Some (Miss address write)
        → Beyond k x ps (ReadOf b) address
    go true f m =
        absurd (shown_valid k x ps (page_read x (address_in x b)) (address_in x b) v (ap (λ (z : Spot). is_shown ps (page_at_spot k.place x.sid z)) (sym (e.spots b)) ∙ f)
        (read_missing k x e.image (address_in x b) b address write (subst (λ (z : Spot). read_refusal (read_spot k x.sid z) b ≡ Some (Miss address write)) (e.spots b) m)))
    go false f m =
        let n = not_shown ps (page_in k.place x.sid b) f in
        record {
          page = n.0;
          of_access = read_page_is k x e.image (address_in x b) ∙ ap (page_at_spot k.place x.sid) (sym (e.spots b)) ∙ n.1;
          new = n.2;
          at = ap (page_in k.place x.sid) (sym (same reads.Miss m)) ∙ n.1;
        }
beyond k x e ps (TestOf b) address write v h = go (is_shown ps (page_in k.place x.sid b)) refl h
  where
    same : (r : MayWrite) → test_refusal r b ≡ Some (Miss address write) → (b ≡ address) × (r ≡ tests.Miss)
    same tests.May m = absurd cc
    same tests.Miss m = (cc, refl)
    same tests.Below m = absurd cc
    same tests.Text m = absurd cc
    same tests.Outside m = absurd cc

    go : (s : Bool) → is_shown ps (page_in k.place x.sid b) ≡ s → test_refusal (may_where s (may_write_spot k.place x.sid (spot_in k.place x.sid b))) b ≡ Some (Miss address write)
        → Beyond k x ps (TestOf b) address
    go true f m =
        absurd (shown_valid k x ps (page_tested x (address_in x b)) (address_in x b) v (ap (λ (z : Spot). is_shown ps (page_at_spot k.place x.sid z)) (sym (e.spots b)) ∙ f)
        (test_missing k x (address_in x b) b address write (subst (λ (z : Spot). test_refusal (may_write_spot k.place x.sid z) b ≡ Some (Miss address write)) (e.spots b) m)))
    go false f m =
        let w = same (may_where false (may_write_spot k.place x.sid (spot_in k.place x.sid b))) m in
        let t = hidden_test k x (address_in x b) (ap (λ (z : Spot). may_where false (may_write_spot k.place x.sid z)) (sym (e.spots b)) ∙ w.1) in
        let here : page_in k.place x.sid b ≡ Some t.0 = ap (page_at_spot k.place x.sid) (e.spots b) ∙ (tests_page k x (address_in x b) t.0 t.1).at in
        record {
          page = t.0;
          of_access = t.1;
          new = sym (ap (is_shown ps) here) ∙ f;
          at = ap (page_in k.place x.sid) (sym w.0) ∙ here;
        }

-- Accesses, one after another.

-- the pages of these accesses are shown, up to one that isn't, which is that of the address
pub record NextAt (k : Kernel) (x : Space) (ps : List Page) (list : List ByteAccess) (address : ℕ) : Type 0 where
  pub page : Page
  pub front : List Page
  pub back : List Page
  pub whole : filter_map (page_of_access x) list ≡ front ++ page ∷ back
  pub all : AllAmong ps front
  pub new : is_among page ps ≡ false
  pub at : page_in k.place x.sid address ≡ Some page

next_at : (k : Kernel) (x : Space) (e : SameSpots k x) (ps : List Page) (list front rest : List ByteAccess) (last : ByteAccess) (address : ℕ) (write : Bool)
    → AllValid k.place ps
    → list ≡ front ++ last ∷ rest → AllHit (shown_in k x.sid ps) front → refusal (shown_in k x.sid ps) last ≡ Some (Miss address write)
    → NextAt k x ps list address
next_at k x e ps list front rest last address write v whole hits miss =
    let b : Beyond k x ps last address = beyond k x e ps last address write v miss in
    record {
      page = b.page;
      front = filter_map (page_of_access x) front;
      back = filter_map (page_of_access x) rest;
      whole =
          ap (filter_map (page_of_access x)) whole ∙ filter_map-append (page_of_access x) front (last ∷ rest)
          ∙ ap (λ (o : Option Page). filter_map (page_of_access x) front ++ cons_option o (filter_map (page_of_access x) rest)) b.of_access;
      all = hit_among k x e ps front hits;
      new = b.new;
      at = b.at;
    }

-- a computation that misses, after accesses that don't, and before others
pub program_misses : {B : Type 0} (k : Kernel) (x : Space) (e : SameSpots k x) (ps : List Page) (q : Program B) (before after : List ByteAccess)
    (address : ℕ) (write : Bool)
    → AllValid k.place ps
    → Covers (shown_in k x.sid ps) (answers_of x) → AllHit (shown_in k x.sid ps) before → run (shown_in k x.sid ps) q ≡ Err (Miss address write)
    → NextAt k x ps (before ++ (accesses (answers_of x) q ++ after)) address
program_misses k x e ps q before after address write v c hits m =
    let memory : Answers = shown_in k x.sid ps in
    let ends : EndsRefused memory (accesses memory q) (Miss address write) = (keeps_order memory q).misses address write m in
    let more : (list : List ByteAccess) × (accesses (answers_of x) q ≡ accesses memory q ++ list) = elim (same_or_misses memory (answers_of x) q c) [
      | inl s ↦ ([], sym s.1 ∙ sym (append_none (accesses memory q)))
      | inr h ↦ (h.3, h.4)
    ] in
    next_at k x e ps (before ++ (accesses (answers_of x) q ++ after)) (before ++ ends.0) (more.0 ++ after) ends.1 address write v
    (ap (λ (list : List ByteAccess). before ++ (list ++ after)) (more.1 ∙ ap (λ (list : List ByteAccess). list ++ more.0) ends.2)
    ∙ ap (λ (list : List ByteAccess). before ++ list) (append_one (ends.0 ++ ends.1 ∷ []) more.0 after ∙ append_one ends.0 (ends.1 ∷ []) (more.0 ++ after))
    ∙ sym (append_one before ends.0 (ends.1 ∷ (more.0 ++ after))))
    (hit_both memory before ends.0 hits (granted_hit memory ends.0 ends.3)) ends.4

-- one that doesn't comes to the same over the flat memory, by accesses that don't
pub record Whole {B : Type 0} (memory flat : Answers) (q : Program B) : Type 0 where
  pub same : run memory q ≡ run flat q
  pub hits : AllHit memory (accesses flat q)

pub program_whole : {B : Type 0} (memory flat : Answers) (q : Program B) → Covers memory flat → NotMissed (run memory q) → Whole memory flat q
program_whole memory flat q c n = elim (same_or_misses memory flat q c) [
  | inl e ↦ record { same = e.0; hits = subst (AllHit memory) e.1 (all_hit memory q n) }
  | inr h ↦ absurd (subst NotMissed h.2 n)
]
