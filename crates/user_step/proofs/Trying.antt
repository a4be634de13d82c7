-- What an instruction comes to of which some bytes alone may be written.
use Rattle.std.proofs.Common.{◌≡◌, ◌≢◌, ℕ, ◌+◌, ◌≤◌, ◌<◌, ◌==◌, ◌||◌, ◌⊎◌, ◌↔◌, inl, inr, Bool, true, false, List, [], ◌∷◌, ◌++◌, append_assoc, Option, Some, None, Result, Ok, Err, ℤ, refl, sym, ap, ◌∙◌, subst, arith}
use Rattle.std.proofs.lemmas.Bool.Decides.{nat_tests}
use Rattle.vm_facts.specs.Answers.{Answers}
use Rattle.vm_facts.specs.declared.memory.ByteRead.{ByteRead}
use Rattle.vm_facts.specs.declared.memory.ByteRead.TheVariants as bytes
use Rattle.vm_facts.specs.declared.memory.MayWrite.{MayWrite}
use Rattle.vm_facts.specs.declared.memory.MayWrite.TheVariants as tests
use Rattle.user_vax.specs.declared.refused.Refused.{Refused}
use Rattle.user_vax.specs.declared.refused.Refused.TheVariants.{Miss, Below, Signal}
use Rattle.user_vax.specs.declared.stepped.Stepped.{Stepped}
use Rattle.user_vax.specs.declared.stepped.Stepped.TheVariants as steps
use Rattle.user_vax.specs.Program.{Program, run, ByteAccess, ReadOf, TestOf, accesses}
use Rattle.user_vax.specs.Effects.{Effect}
use Rattle.user_vax.specs.Instruction.{answer_of, answer_of_call, writes_of}
use Rattle.user_vax.specs.Laws.{refusal, read_refusal, test_refusal, AllGranted, Covers}
use Rattle.user_vax.proofs.Order.{keeps_order, same_or_misses}
use Rattle.user_step.specs.declared.slots.Slot.{Slot}
use Rattle.user_step.specs.Slots.{has_slot, byte_in, all_stored, read_over, may_where, over, WroteSlots, where_may, wanted}

-- What a step answers.

pub call_done : (o : Option ℤ) (s : Stepped) → answer_of_call o ≡ s → ((number : ℤ) → s ≢ steps.Call number) → s ≢ steps.Done → ⊥
call_done None s e f g = g (sym e)
call_done (Some number) s e f g = f number (sym e)

done_ok : (r : Result Effect Refused) → answer_of r ≡ steps.Done → (effect : Effect) × (r ≡ Ok effect)
done_ok (Ok effect) e = (effect, refl)
done_ok (Err (Miss address write)) e = absurd cc
done_ok (Err (Below address)) e = absurd cc
done_ok (Err (Signal number)) e = absurd cc

pub missed : (r : Result Effect Refused) (address : ℕ) (write : Bool) → answer_of r ≡ steps.Miss address write → r ≡ Err (Miss address write)
missed (Ok effect) address write e = absurd (call_done effect.call (steps.Miss address write) e (λ n z. absurd cc) (λ z. absurd cc))
missed (Err (Miss a w)) address write e = cc
missed (Err (Below a)) address write e = absurd cc
missed (Err (Signal n)) address write e = absurd cc

-- Slots to which nothing went.

abbrev pub AllEmpty : List Slot → Type 0
AllEmpty [] = Unit {0}
AllEmpty (slot ∷ slots) = (slot.byte ≡ None) × AllEmpty slots

empty_byte : (slots : List Slot) (x : ℕ) → AllEmpty slots → byte_in slots x ≡ None
empty_byte [] x h = refl
empty_byte (slot ∷ slots) x h = go (slot.address == x) (empty_byte slots x h.1)
  where
    go : (b : Bool) → byte_in slots x ≡ None → Rattle.std.proofs.Common.cond b slot.byte (byte_in slots x) ≡ None
    go true later = h.0
    go false later = later

pub empty_more : (slots : List Slot) (address : ℕ) → AllEmpty slots → AllEmpty (slots ++ record { address = address; byte = None } ∷ [])
empty_more [] address h = (refl, tt)
empty_more (slot ∷ slots) address h = (h.0, empty_more slots address h.1)

empty_read : (memory : Answers) (slots : List Slot) (x : ℕ) → AllEmpty slots → (over memory slots).read x ≡ memory.read x
empty_read memory slots x h = ap (λ (o : Option ℕ). read_over o (memory.read x)) (empty_byte slots x h)

covers : (memory : Answers) (slots : List Slot) → AllEmpty slots → Covers (over memory slots) memory
covers memory slots h = record { reads = λ x. inr (empty_read memory slots x h); tests = λ x. tested (has_slot slots x) (memory.may_write x) }
  where
    tested : (b : Bool) (answer : MayWrite) → (may_where b answer ≡ tests.Miss) ⊎ (may_where b answer ≡ answer)
    tested true answer = inr refl
    tested false tests.May = inl refl
    tested false tests.Miss = inr refl
    tested false tests.Below = inr refl
    tested false tests.Text = inr refl
    tested false tests.Outside = inr refl

-- The byte that missed.

missed_at : (memory : Answers) (slots : List Slot) (p : Program Effect) (address : ℕ) (write : Bool) → AllEmpty slots
    → run (over memory slots) p ≡ Err (Miss address write)
    → (front : List ByteAccess) × (last : ByteAccess) × (rest : List ByteAccess) × (accesses memory p ≡ front ++ last ∷ rest)
    × (refusal (over memory slots) last ≡ Some (Miss address write))
missed_at memory slots p address write h e =
    let ends = (keeps_order (over memory slots) p).misses address write e in
    elim (same_or_misses (over memory slots) memory p (covers memory slots h)) [
      | inl same ↦ (ends.0, ends.1, [], sym same.1 ∙ ends.2, ends.4)
      | inr more ↦ (ends.0, ends.1, more.3, more.4 ∙ ap (λ (l : List ByteAccess). l ++ more.3) ends.2 ∙ append_assoc ends.0 (ends.1 ∷ []) more.3, ends.4)
    ]

read_miss : (answer : ByteRead) (x address : ℕ) (write : Bool) → read_refusal answer x ≡ Some (Miss address write) → write ≡ false
read_miss (bytes.Is byte) x address write e = absurd cc
read_miss bytes.Miss x address write e = cc
read_miss bytes.Below x address write e = absurd cc
read_miss bytes.Outside x address write e = absurd cc

test_miss : (answer : MayWrite) (x address : ℕ) (write : Bool) → test_refusal answer x ≡ Some (Miss address write)
    → (write ≡ true) × (x ≡ address) × (answer ≡ tests.Miss)
test_miss tests.May x address write e = absurd cc
test_miss tests.Miss x address write e = (cc, cc, refl)
test_miss tests.Below x address write e = absurd cc
test_miss tests.Text x address write e = absurd cc
test_miss tests.Outside x address write e = absurd cc

none_may : (answer : MayWrite) (x : ℕ) → test_refusal answer x ≡ None → answer ≡ tests.May
none_may tests.May x e = refl
none_may tests.Miss x e = absurd cc
none_may tests.Below x e = absurd cc
none_may tests.Text x e = absurd cc
none_may tests.Outside x e = absurd cc

some_none : (o : Option Refused) (refused : Refused) → o ≡ Some refused → o ≢ None
some_none o refused e f = absurd cc

-- it is one that is read, and misses in the memory too; or one that is tested
what_missed : (memory : Answers) (slots : List Slot) (last : ByteAccess) (address : ℕ) (write : Bool) → AllEmpty slots
    → refusal (over memory slots) last ≡ Some (Miss address write)
    → ((write ≡ false) × (refusal memory last ≢ None))
    ⊎ ((write ≡ true) × (last ≡ TestOf address) × (may_where (has_slot slots address) (memory.may_write address) ≡ tests.Miss))
what_missed memory slots (ReadOf x) address write h e = inl (
  read_miss ((over memory slots).read x) x address write e,
  some_none (refusal memory (ReadOf x)) (Miss address write) (ap (λ (a : ByteRead). read_refusal a x) (sym (empty_read memory slots x h)) ∙ e),
)
what_missed memory slots (TestOf x) address write h e =
    let t = test_miss ((over memory slots).may_write x) x address write e in
    inr (t.0, ap TestOf t.1, subst (λ (y : ℕ). may_where (has_slot slots y) (memory.may_write y) ≡ tests.Miss) t.1 t.2)

granted_last : (memory : Answers) (front : List ByteAccess) (last : ByteAccess) (rest : List ByteAccess) → AllGranted memory (front ++ last ∷ rest)
    → refusal memory last ≡ None
granted_last memory [] last rest h = h.0
granted_last memory (access ∷ front) last rest h = granted_last memory front last rest h.1

-- an access that is refused is of no instruction that is carried out
undone : (memory : Answers) (p : Program Effect) (front : List ByteAccess) (last : ByteAccess) (rest : List ByteAccess)
    → accesses memory p ≡ front ++ last ∷ rest
    → refusal memory last ≢ None
    → answer_of (run memory p) ≢ steps.Done
undone memory p front last rest e f d =
    let ok = done_ok (run memory p) d in
    f (granted_last memory front last rest (subst (AllGranted memory) e ((keeps_order memory p).gives ok.0 ok.1)))

-- The byte that is wanted.

may_wanted : (answer : MayWrite) (x y : ℕ) → where_may answer x ≡ Some y → (x ≡ y) × (answer ≡ tests.May)
may_wanted tests.May x y e = (cc, refl)
may_wanted tests.Miss x y e = absurd cc
may_wanted tests.Below x y e = absurd cc
may_wanted tests.Text x y e = absurd cc
may_wanted tests.Outside x y e = absurd cc

wanted_some : (memory : Answers) (s : Stepped) (address : ℕ) → wanted memory s ≡ Some address
    → (s ≡ steps.Miss address true) × (memory.may_write address ≡ tests.May)
wanted_some memory steps.Done address e = absurd cc
wanted_some memory (steps.Call number) address e = absurd cc
wanted_some memory (steps.Miss x false) address e = absurd cc
wanted_some memory (steps.Miss x true) address e =
    let may = may_wanted (memory.may_write x) x address e in
    (ap (λ (y : ℕ). steps.Miss y true) may.0, ap memory.may_write (sym may.0) ∙ may.1)
wanted_some memory (steps.Below x) address e = absurd cc
wanted_some memory (steps.Signal number) address e = absurd cc

none_wanted : (memory : Answers) (s : Stepped) (address : ℕ) (write : Bool) → wanted memory s ≡ None → s ≡ steps.Miss address write → write ≡ true
    → memory.may_write address ≢ tests.May
none_wanted memory s address write none e writes may =
    let some : wanted memory s ≡ Some address =
    ap (wanted memory) (e ∙ ap (steps.Miss address) writes) ∙ ap (λ (a : MayWrite). where_may a address) may in
    absurd cc

-- An instruction that doesn't miss at a byte that may be written comes to what it comes to in the memory.

pub decided : (memory : Answers) (slots : List Slot) (p : Program Effect) (s : Stepped) → AllEmpty slots → s ≡ answer_of (run (over memory slots) p)
    → wanted memory s ≡ None
    → (s ≡ steps.Done) ↔ (answer_of (run memory p) ≡ steps.Done)
decided memory slots p s h e none = elim (same_or_misses (over memory slots) memory p (covers memory slots h)) [
  | inl same ↦ (
    (λ d. sym (e ∙ ap answer_of same.0) ∙ d),
    (λ d. e ∙ ap answer_of same.0 ∙ d),
  )
  | inr more ↦ (
    (λ d. let z : steps.Miss more.0 more.1 ≡ steps.Done = sym (e ∙ ap answer_of more.2) ∙ d in absurd cc),
    (λ d. absurd (never more.0 more.1 more.2 d)),
  )
]
  where
    never : (address : ℕ) (write : Bool) → run (over memory slots) p ≡ Err (Miss address write) → answer_of (run memory p) ≢ steps.Done
    never address write m =
        let at = missed_at memory slots p address write h m in
        undone memory p at.0 at.1 at.2 at.3
        (elim (what_missed memory slots at.1 address write h at.4) [
          | inl read ↦ read.1
          | inr test ↦ λ z. none_wanted memory s address write none (e ∙ ap answer_of m) test.0 (none_may (memory.may_write address) address (sym (ap (refusal memory) test.1) ∙ z))
        ])

-- One that does misses at one that has no slot yet.

abbrev one_left : Bool → ℕ
one_left true = 0
one_left false = 1

-- how many tests are of bytes that have no slot
abbrev pub left : List Slot → List ByteAccess → ℕ
left slots [] = 0
left slots (ReadOf x ∷ list) = left slots list
left slots (TestOf x ∷ list) = one_left (has_slot slots x) + left slots list

slot_kept : (slots : List Slot) (slot : Slot) (x : ℕ) → has_slot slots x ≡ true → has_slot (slots ++ slot ∷ []) x ≡ true
slot_kept [] slot x h = absurd cc
slot_kept (s ∷ slots) slot x h = go (s.address == x) (λ k. slot_kept slots slot x k) h
  where
    go : (b : Bool) → (has_slot slots x ≡ true → has_slot (slots ++ slot ∷ []) x ≡ true) → (b || has_slot slots x) ≡ true → (b || has_slot (slots ++ slot ∷ []) x) ≡ true
    go true later k = refl
    go false later k = later k

slot_there : (slots : List Slot) (slot : Slot) → has_slot (slots ++ slot ∷ []) slot.address ≡ true
slot_there [] slot = let same : (slot.address == slot.address) ≡ true = grind (arith, nat_tests) in ap (λ (b : Bool). b || false) same
slot_there (s ∷ slots) slot = go (s.address == slot.address) (slot_there slots slot)
  where
    go : (b : Bool) → has_slot (slots ++ slot ∷ []) slot.address ≡ true → (b || has_slot (slots ++ slot ∷ []) slot.address) ≡ true
    go true later = refl
    go false later = later

one_less : (b c : Bool) → (b ≡ true → c ≡ true) → one_left c ≤ one_left b
one_less true c h = rw (h refl) (omega arith)
one_less false true h = omega arith
one_less false false h = omega arith

left_less : (slots : List Slot) (slot : Slot) (list : List ByteAccess) → left (slots ++ slot ∷ []) list ≤ left slots list
left_less slots slot [] = omega arith
left_less slots slot (ReadOf x ∷ list) = left_less slots slot list
left_less slots slot (TestOf x ∷ list) =
    let one = one_less (has_slot slots x) (has_slot (slots ++ slot ∷ []) x) (slot_kept slots slot x) in
    let rest = left_less slots slot list in
    omega arith

left_fewer : (slots : List Slot) (slot : Slot) (front rest : List ByteAccess) → has_slot slots slot.address ≡ false
    → left (slots ++ slot ∷ []) (front ++ TestOf slot.address ∷ rest) < left slots (front ++ TestOf slot.address ∷ rest)
left_fewer slots slot [] rest h =
    let now = ap one_left (slot_there slots slot) in
    let before = ap one_left h in
    let less = left_less slots slot rest in
    omega arith
left_fewer slots slot (ReadOf x ∷ front) rest h = left_fewer slots slot front rest h
left_fewer slots slot (TestOf x ∷ front) rest h =
    let one = one_less (has_slot slots x) (has_slot (slots ++ slot ∷ []) x) (slot_kept slots slot x) in
    let less = left_fewer slots slot front rest h in
    omega arith

may_miss : (b : Bool) → may_where b tests.May ≡ tests.Miss → b ≡ false
may_miss true e = absurd cc
may_miss false e = refl

pub fewer : (memory : Answers) (slots : List Slot) (p : Program Effect) (s : Stepped) (address : ℕ) → AllEmpty slots
    → s ≡ answer_of (run (over memory slots) p) → wanted memory s ≡ Some address
    → left (slots ++ record { address = address; byte = None } ∷ []) (accesses memory p) < left slots (accesses memory p)
fewer memory slots p s address h e some =
    let want = wanted_some memory s address some in
    let at = missed_at memory slots p address true h (missed (run (over memory slots) p) address true (sym e ∙ want.0)) in
    elim (what_missed memory slots at.1 address true h at.4) [
      | inl read ↦ (let z : true ≡ false = read.0 in absurd cc)
      | inr test ↦
          let list : accesses memory p ≡ at.0 ++ TestOf address ∷ at.2 = at.3 ∙ ap (λ (a : ByteAccess). at.0 ++ a ∷ at.2) test.1 in
          let none : has_slot slots address ≡ false = may_miss (has_slot slots address) (sym (ap (may_where (has_slot slots address)) want.1) ∙ test.2) in
          subst (λ (l : List ByteAccess). left (slots ++ record { address = address; byte = None } ∷ []) l < left slots l) (sym list)
          (left_fewer slots (record { address = address; byte = None }) at.0 at.2 none)
    ]

-- One that is refused leaves the slots as they are.

pub wanted_kept : (memory below : Answers) (slots after : List Slot) (p : Program Effect) (s : Stepped) (address : ℕ)
    → s ≡ answer_of (run (over memory slots) p) → wanted memory s ≡ Some address
    → WroteSlots memory slots (writes_of (run (over memory slots) p)) below after → after ≡ slots
wanted_kept memory below slots after p s address e some w =
    w.kept ∙ ap (λ (r : Result Effect Refused). all_stored slots (writes_of r)) (missed (run (over memory slots) p) address true (sym e ∙ (wanted_some memory s address some).0))

-- So it is granted, and the loop goes on.
pub granted : (memory below above : Answers) (slots after more : List Slot) (p : Program Effect) (s : Stepped) (o : Option ℕ) (address : ℕ)
    → below ≡ memory → AllEmpty slots → s ≡ answer_of (run (over below slots) p)
    → o ≡ wanted memory s → o ≡ Some address → WroteSlots below slots (writes_of (run (over below slots) p)) above after
    → more ≡ after ++ record { address = address; byte = None } ∷ []
    → (left more (accesses memory p) < left slots (accesses memory p)) × (above ≡ memory) × AllEmpty more
granted memory below above slots after more p s o address same h e is found w pushed =
    let some : wanted memory s ≡ Some address = sym is ∙ found in
    let e_below : s ≡ answer_of (run (over memory slots) p) = e ∙ ap (λ (m : Answers). answer_of (run (over m slots) p)) same in
    let some_below : wanted below s ≡ Some address = ap (λ (m : Answers). wanted m s) same ∙ some in
    let all : more ≡ slots ++ record { address = address; byte = None } ∷ [] =
    pushed ∙ ap (λ (l : List Slot). l ++ record { address = address; byte = None } ∷ []) (wanted_kept below above slots after p s address e some_below w) in (
      subst (λ (l : List Slot). left l (accesses memory p) < left slots (accesses memory p)) (sym all) (fewer memory slots p s address h e_below some),
      w.same ∙ same,
      subst AllEmpty (sym all) (empty_more slots address h),
    )

-- or it is decided
pub decided_below : (memory below : Answers) (slots : List Slot) (p : Program Effect) (s : Stepped) (o : Option ℕ) → below ≡ memory → AllEmpty slots
    → s ≡ answer_of (run (over below slots) p) → o ≡ wanted memory s → o ≡ None
    → (s ≡ steps.Done) ↔ (answer_of (run memory p) ≡ steps.Done)
decided_below memory below slots p s o same h e is none = decided memory slots p s h (e ∙ ap (λ (m : Answers). answer_of (run (over m slots) p)) same) (sym is ∙ none)
