-- The pages that an instruction touches, by its accesses over the frames of a machine.
use Rattle.std.specs.List.{cons_option}
use Rattle.std.proofs.Common.{◌≡◌, ◌⊎◌, inl, inr, ℕ, ◌*◌, ◌/◌, ◌%◌, not, Bool, true, false, cond, List, [], ◌∷◌, ◌++◌, length, filter, filter_map, Option, Some, None, Result, Ok, Err, ℤ, refl, sym, ap, ◌∙◌, subst}
use Rattle.vm_facts.specs.Answers.{Answers}
use Rattle.vm_facts.specs.declared.memory.ByteRead.{ByteRead}
use Rattle.vm_facts.specs.declared.memory.ByteRead.TheVariants as reads
use Rattle.vm_facts.specs.declared.memory.MayWrite.{MayWrite}
use Rattle.vm_facts.specs.declared.memory.MayWrite.TheVariants as tests
use Rattle.vm_facts.specs.declared.page.Page.{Page}
use Rattle.vm_facts.specs.declared.page.Page.TheVariants as pages
use Rattle.vm_facts.specs.declared.page.PageState.{PageState}
use Rattle.vm_facts.specs.declared.page.PageState.TheVariants.{Unfilled, Valid, Invalid, Coming, Going, OnSwap}
use Rattle.user_vax.specs.Program.{Program, Gives, Refuses, Reads, Tests, run, ByteAccess, ReadOf, TestOf, accesses, rest_of_read, rest_of_test, after_read, after_test}
use Rattle.user_vax.specs.Laws.{refusal, read_refusal, test_refusal, AllGranted, EndsRefused, Covers, SameOrMisses}
use Rattle.user_vax.specs.Effects.{Effect}
use Rattle.user_vax.specs.Instruction.{instruction}
use Rattle.user_vax.specs.declared.refused.Refused.{Refused}
use Rattle.user_vax.specs.declared.refused.Refused.TheVariants.{Miss, Below, Signal}
use Rattle.user_vax.proofs.Order.{keeps_order, same_or_misses}
use Rattle.flat_state.specs.declared.spot.Spot.{Spot}
use Rattle.flat_state.specs.declared.spot.Spot.TheVariants as spots
use Rattle.flat_state.specs.PageNames.{same_page, is_among}
use Rattle.flat_state.proofs.PageNames.{same_page_is}
use Rattle.flat_state.specs.Space.{Space, spot_at, address_in, answers_of}
use Rattle.page_model.specs.Pages.{SpacePages, is_valid, numbered, data_in, stack_in}
use Rattle.page_model.specs.Placement.{Placement, space_number, image_in, image_of, state_of}
use Rattle.page_model.specs.Conditions.{EachPage}
use Rattle.kernel_model.specs.Kernel.{Kernel}
use Rattle.fault_fill.specs.UserMemory.{bytes_of, text_len, data_len, stack_len, spot_in, page_at_spot, page_in, read_by_state, read_page, read_spot, may_write_by, may_write_spot, kernel_answers}
use Rattle.flat_model.specs.Touched.{page_read, page_tested, page_of_access, distinct}
use Rattle.run_model.specs.Wanted.{AllValid}
use Rattle.economy_laws.proofs.Extending.{filter_both as filter_append}

-- Accesses that miss.

abbrev pub IsHit : Option Refused → Type 0
IsHit (Some (Miss address write)) = ⊥
IsHit _ = Unit {0}

abbrev pub AllHit : Answers → List ByteAccess → Type 0
AllHit memory [] = Unit {0}
AllHit memory (a ∷ list) = IsHit (refusal memory a) × AllHit memory list

abbrev pub NotMissed : {A : Type 0} → Result A Refused → Type 0
NotMissed (Err (Miss address write)) = ⊥
NotMissed _ = Unit {0}

-- a computation that doesn't miss made no access that misses
pub all_hit : {A : Type 0} (memory : Answers) (p : Program A) → NotMissed (run memory p) → AllHit memory (accesses memory p)
all_hit memory (Gives x) h = tt
all_hit memory (Refuses signal) h = tt
all_hit {A} memory (Reads address next) h = go (λ byte n. all_hit memory (next byte) n) (memory.read address) refl h
  where
    go : ((byte : ℕ) → NotMissed (run memory (next byte)) → AllHit memory (accesses memory (next byte))) → (r : ByteRead) → memory.read address ≡ r
        → NotMissed (after_read {A = A} r address (λ byte. run memory (next byte)))
        → IsHit (read_refusal (memory.read address) address) × AllHit memory (rest_of_read r (λ byte. accesses memory (next byte)))
    go later (reads.Is byte) e n = (subst (λ (x : ByteRead). IsHit (read_refusal x address)) (sym e) tt, later byte n)
    go later reads.Miss e n = absurd n
    go later reads.Below e n = (subst (λ (x : ByteRead). IsHit (read_refusal x address)) (sym e) tt, tt)
    go later reads.Outside e n = (subst (λ (x : ByteRead). IsHit (read_refusal x address)) (sym e) tt, tt)
all_hit {A} memory (Tests address next) h = go (λ n. all_hit memory next n) (memory.may_write address) refl h
  where
    go : (NotMissed (run memory next) → AllHit memory (accesses memory next)) → (r : MayWrite) → memory.may_write address ≡ r → NotMissed (after_test {A = A} r address (run memory next))
        → IsHit (test_refusal (memory.may_write address) address) × AllHit memory (rest_of_test r (accesses memory next))
    go later tests.May e n = (subst (λ (x : MayWrite). IsHit (test_refusal x address)) (sym e) tt, later n)
    go later tests.Miss e n = absurd n
    go later tests.Below e n = (subst (λ (x : MayWrite). IsHit (test_refusal x address)) (sym e) tt, tt)
    go later tests.Text e n = (subst (λ (x : MayWrite). IsHit (test_refusal x address)) (sym e) tt, tt)
    go later tests.Outside e n = (subst (λ (x : MayWrite). IsHit (test_refusal x address)) (sym e) tt, tt)

pub granted_hit : (memory : Answers) (list : List ByteAccess) → AllGranted memory list → AllHit memory list
granted_hit memory [] h = tt
granted_hit memory (a ∷ list) h = (subst IsHit (sym h.0) tt, granted_hit memory list h.1)

-- Pages of accesses.

read_valid : (k : Kernel) (q : Page) (at address : ℕ) → IsHit (read_refusal (read_page k q at) address) → is_valid (state_of k.place q) ≡ true
read_valid k q at address h = go (state_of k.place q) refl h
  where
    go : (s : PageState) → state_of k.place q ≡ s → IsHit (read_refusal (read_by_state k s at) address) → is_valid (state_of k.place q) ≡ true
    go (Valid f) e n = ap is_valid e
    go Unfilled e n = absurd n
    go (Invalid f) e n = absurd n
    go (Coming f) e n = absurd n
    go (Going f) e n = absurd n
    go OnSwap e n = absurd n

test_valid : (k : Kernel) (q : Page) (address : ℕ) → IsHit (test_refusal (may_write_by (state_of k.place q)) address) → is_valid (state_of k.place q) ≡ true
test_valid k q address h = go (state_of k.place q) refl h
  where
    go : (s : PageState) → state_of k.place q ≡ s → IsHit (test_refusal (may_write_by s) address) → is_valid (state_of k.place q) ≡ true
    go (Valid f) e n = ap is_valid e
    go Unfilled e n = absurd n
    go (Invalid f) e n = absurd n
    go (Coming f) e n = absurd n
    go (Going f) e n = absurd n
    go OnSwap e n = absurd n

read_absent : (k : Kernel) (q : Page) (at address : ℕ) (refused : Refused) → read_refusal (read_page k q at) address ≡ Some refused
    → is_valid (state_of k.place q) ≡ false
read_absent k q at address refused h = go (state_of k.place q) refl h
  where
    go : (s : PageState) → state_of k.place q ≡ s → read_refusal (read_by_state k s at) address ≡ Some refused → is_valid (state_of k.place q) ≡ false
    go (Valid f) e n = absurd cc
    go Unfilled e n = ap is_valid e
    go (Invalid f) e n = ap is_valid e
    go (Coming f) e n = ap is_valid e
    go (Going f) e n = ap is_valid e
    go OnSwap e n = ap is_valid e

test_absent : (k : Kernel) (q : Page) (address : ℕ) (refused : Refused) → test_refusal (may_write_by (state_of k.place q)) address ≡ Some refused
    → is_valid (state_of k.place q) ≡ false
test_absent k q address refused h = go (state_of k.place q) refl h
  where
    go : (s : PageState) → state_of k.place q ≡ s → test_refusal (may_write_by s) address ≡ Some refused → is_valid (state_of k.place q) ≡ false
    go (Valid f) e n = absurd cc
    go Unfilled e n = ap is_valid e
    go (Invalid f) e n = ap is_valid e
    go (Coming f) e n = ap is_valid e
    go (Going f) e n = ap is_valid e
    go OnSwap e n = ap is_valid e

-- by the spot of the address, of a space whose image the machine has too
hit_valid : (k : Kernel) (x : Space) (image : image_of k.place x.sid ≡ x.image) (spot : Spot) (address : ℕ) (q : Page)
    → IsHit (read_refusal (read_spot k x.sid spot) address)
    → page_read x spot ≡ Some q → is_valid (state_of k.place q) ≡ true
hit_valid k x e (spots.Text i) address q h p =
    let same : pages.Text (image_of k.place x.sid) (i / 1024) ≡ q = ap (λ (n : ℕ). pages.Text n (i / 1024)) e ∙ (let z : pages.Text x.image (i / 1024) ≡ q = cc in z) in
    subst (λ (r : Page). is_valid (state_of k.place r) ≡ true) same (read_valid k (pages.Text (image_of k.place x.sid) (i / 1024)) (i % 1024) address h)
hit_valid k x e (spots.Data i) address q h p =
    subst (λ (r : Page). is_valid (state_of k.place r) ≡ true) (let z : pages.Data x.sid (i / 1024) ≡ q = cc in z) (read_valid k (pages.Data x.sid (i / 1024)) (i % 1024) address h)
hit_valid k x e (spots.Stack i) address q h p =
    subst (λ (r : Page). is_valid (state_of k.place r) ≡ true) (let z : pages.Stack x.sid (i / 1024) ≡ q = cc in z) (read_valid k (pages.Stack x.sid (i / 1024)) (i % 1024) address h)
hit_valid k x e spots.Below address q h p = absurd cc
hit_valid k x e spots.Outside address q h p = absurd cc

tested_valid : (k : Kernel) (x : Space) (spot : Spot) (address : ℕ) (q : Page) → IsHit (test_refusal (may_write_spot k.place x.sid spot) address)
    → page_tested x spot ≡ Some q
    → is_valid (state_of k.place q) ≡ true
tested_valid k x (spots.Text i) address q h p = absurd cc
tested_valid k x (spots.Data i) address q h p =
    subst (λ (r : Page). is_valid (state_of k.place r) ≡ true) (let z : pages.Data x.sid (i / 1024) ≡ q = cc in z) (test_valid k (pages.Data x.sid (i / 1024)) address h)
tested_valid k x (spots.Stack i) address q h p =
    subst (λ (r : Page). is_valid (state_of k.place r) ≡ true) (let z : pages.Stack x.sid (i / 1024) ≡ q = cc in z) (test_valid k (pages.Stack x.sid (i / 1024)) address h)
tested_valid k x spots.Below address q h p = absurd cc
tested_valid k x spots.Outside address q h p = absurd cc

-- the page of an access that misses: it isn't valid, and is the one of the address
pub record Missing (k : Kernel) (x : Space) (o : Option Page) (spot : Spot) : Type 0 where
  pub page : Page
  pub of_access : o ≡ Some page
  pub of_spot : page_at_spot k.place x.sid spot ≡ Some page
  pub absent : is_valid (state_of k.place page) ≡ false

pub read_missing : (k : Kernel) (x : Space) (image : image_of k.place x.sid ≡ x.image) (spot : Spot) (address other : ℕ) (write : Bool)
    → read_refusal (read_spot k x.sid spot) address ≡ Some (Miss other write) → Missing k x (page_read x spot) spot
read_missing k x e (spots.Text i) address other write h = record {
  page = pages.Text (image_of k.place x.sid) (i / 1024);
  of_access = ap (λ (n : ℕ). Some (pages.Text n (i / 1024))) (sym e);
  of_spot = refl;
  absent = read_absent k (pages.Text (image_of k.place x.sid) (i / 1024)) (i % 1024) address (Miss other write) h;
}
read_missing k x e (spots.Data i) address other write h = record {
  page = pages.Data x.sid (i / 1024);
  of_access = refl;
  of_spot = refl;
  absent = read_absent k (pages.Data x.sid (i / 1024)) (i % 1024) address (Miss other write) h;
}
read_missing k x e (spots.Stack i) address other write h = record {
  page = pages.Stack x.sid (i / 1024);
  of_access = refl;
  of_spot = refl;
  absent = read_absent k (pages.Stack x.sid (i / 1024)) (i % 1024) address (Miss other write) h;
}
read_missing k x e spots.Below address other write h = absurd cc
read_missing k x e spots.Outside address other write h = absurd cc

pub test_missing : (k : Kernel) (x : Space) (spot : Spot) (address other : ℕ) (write : Bool)
    → test_refusal (may_write_spot k.place x.sid spot) address ≡ Some (Miss other write) → Missing k x (page_tested x spot) spot
test_missing k x (spots.Text i) address other write h = absurd cc
test_missing k x (spots.Data i) address other write h = record {
  page = pages.Data x.sid (i / 1024);
  of_access = refl;
  of_spot = refl;
  absent = test_absent k (pages.Data x.sid (i / 1024)) address (Miss other write) h;
}
test_missing k x (spots.Stack i) address other write h = record {
  page = pages.Stack x.sid (i / 1024);
  of_access = refl;
  of_spot = refl;
  absent = test_absent k (pages.Stack x.sid (i / 1024)) address (Miss other write) h;
}
test_missing k x spots.Below address other write h = absurd cc
test_missing k x spots.Outside address other write h = absurd cc

-- A space whose spots the machine has too.
pub record SameSpots (k : Kernel) (x : Space) : Type 0 where
  pub image : image_of k.place x.sid ≡ x.image
  pub spots : (a : ℕ) → spot_in k.place x.sid a ≡ address_in x a

access_valid : (k : Kernel) (x : Space) (e : SameSpots k x) (a : ByteAccess) (q : Page) → IsHit (refusal (kernel_answers k x.sid) a)
    → page_of_access x a ≡ Some q → is_valid (state_of k.place q) ≡ true
access_valid k x e (ReadOf address) q h p =
    hit_valid k x e.image (address_in x address) address q (subst (λ (spot : Spot). IsHit (read_refusal (read_spot k x.sid spot) address)) (e.spots address) h) p
access_valid k x e (TestOf address) q h p =
    tested_valid k x (address_in x address) address q (subst (λ (spot : Spot). IsHit (test_refusal (may_write_spot k.place x.sid spot) address)) (e.spots address) h) p

pub pages_valid : (k : Kernel) (x : Space) (e : SameSpots k x) (list : List ByteAccess) → AllHit (kernel_answers k x.sid) list
    → EachPage (λ q. is_valid (state_of k.place q) ≡ true) (filter_map (page_of_access x) list)
pages_valid k x e [] h = tt
pages_valid k x e (a ∷ list) h = go (page_of_access x a) refl (pages_valid k x e list h.1)
  where
    go : (o : Option Page) → page_of_access x a ≡ o → EachPage (λ q. is_valid (state_of k.place q) ≡ true) (filter_map (page_of_access x) list)
        → EachPage (λ q. is_valid (state_of k.place q) ≡ true) (cons_option o (filter_map (page_of_access x) list))
    go None p rest = rest
    go (Some q) p rest = (access_valid k x e a q h.0 p, rest)

-- Pages each once.

each_filtered : (test : Page → Bool) (P : Page → Type 0) (qs : List Page) → EachPage P qs → EachPage P (filter test qs)
each_filtered test P [] h = tt
each_filtered test P (q ∷ qs) h = go (test q) (each_filtered test P qs h.1)
  where
    go : (b : Bool) → EachPage P (filter test qs) → EachPage P (cond b (q ∷ filter test qs) (filter test qs))
    go true rest = (h.0, rest)
    go false rest = rest

pub each_distinct : (P : Page → Type 0) (qs : List Page) → EachPage P qs → EachPage P (distinct qs)
unfolding distinct
each_distinct P [] h = tt
each_distinct P (q ∷ qs) h = (h.0, each_filtered (λ other. not (same_page q other)) P (distinct qs) (each_distinct P qs h.1))

-- the pages before the first that isn't valid, that one, and others
pub record Parts (p : Placement) (qs : List Page) (page : Page) : Type 0 where
  pub before : List Page
  pub rest : List Page
  pub whole : qs ≡ before ++ page ∷ rest
  pub valid : AllValid p before

-- a page that is valid is another one than one that isn't
other_page : (p : Placement) (q page : Page) → is_valid (state_of p q) ≡ true → is_valid (state_of p page) ≡ false → same_page q page ≡ false
other_page p q page v n = go (same_page q page) refl
  where
    go : (b : Bool) → same_page q page ≡ b → b ≡ false
    go false e = refl
    go true e = let k : true ≡ false = sym v ∙ ap (λ (r : Page). is_valid (state_of p r)) (same_page_is q page e) ∙ n in absurd cc

pub parts : (p : Placement) (before rest : List Page) (page : Page) → AllValid p before → is_valid (state_of p page) ≡ false
    → Parts p (distinct (before ++ page ∷ rest)) page
unfolding distinct
parts p [] rest page v n = record { before = []; rest = _; whole = refl; valid = tt }
parts p (q ∷ before) rest page v n =
    let test : Page → Bool = λ other. not (same_page q other) in
    let i : Parts p (distinct (before ++ page ∷ rest)) page = parts p before rest page v.1 n in
    let kept : filter test (page ∷ i.rest) ≡ page ∷ filter test i.rest =
    ap (λ (b : Bool). cond (not b) (page ∷ filter test i.rest) (filter test i.rest)) (other_page p q page v.0 n) in
    record {
      before = q ∷ filter test i.before;
      rest = filter test i.rest;
      whole = ap (λ (zs : List Page). q ∷ zs) (ap (filter test) i.whole ∙ filter_append test i.before (page ∷ i.rest) ∙ ap (λ (zs : List Page). filter test i.before ++ zs) kept);
      valid = (v.0, each_filtered test (λ r. is_valid (state_of p r) ≡ true) i.before i.valid);
    }
