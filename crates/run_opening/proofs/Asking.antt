-- What was asked of files so far, and what is asked next.
use Rattle.std.proofs.Common.{◌≡◌, ◌⊎◌, inl, inr, ℕ, ◌+◌, ◌<◌, ◌≤◌, Bool, true, false, nat_lt, if◌then◌else◌, List, [], ◌∷◌, ◌++◌, length, map, take, drop, get_or, add-one, drop-cons, Option, Some, None, Result, Ok, Err, is_err, Vec, Bor, Global, refl, sym, ap, ◌∙◌, subst}
use Rattle.std.proofs.lemmas.List.{map-append, take_more, take_all, take-append-drop}
use Rattle.std.proofs.lemmas.Option.{same_Some}
use Rattle.io_edge.specs.FileHolding.{NamedFile}
use Rattle.io_edge.specs.Striping.{zero_needs, one_needs}
use Rattle.io_edge.specs.FileRequests.{FileNotes}
use Rattle.command_edge.specs.Asked.{IsFound, AsksFront}
use Rattle.command_edge.specs.declared.answers.Unread.{Unread}
use Rattle.command_edge.specs.declared.fault.Fault.{Fault}
use Rattle.command_edge.specs.declared.fault.Fault.TheVariants as faults
use Rattle.vm_facts.specs.declared.event.Event.{Event}
use Rattle.run_opening.specs.declared.opening.Opening.{Opening}
use Rattle.run_opening.specs.Asked.{header_bytes, IsAbout, AsksHeaders, AsksSomeHeaders, AsksAfterSchedule, AsksOpening}
use Rattle.command_edge.specs.declared.answers.Unread.TheVariants as unreads
use Rattle.command_edge.specs.Ending.{fault_of}
use Rattle.command_edge.specs.Command.{Faults}
use Rattle.run_opening.specs.Schedules.{schedule_bytes, EndsSchedule}
use Rattle.run_opening.specs.Images.{IsImageFault}
use Rattle.run_opening.specs.Devices.{device_fault}

-- the same by what these come to
pub front_for : (name : List ℕ) (holds : Option (List NamedFile)) (most : ℕ) (O P Q R : Type 0) (old new : FileNotes) → (O → P) → (Q → R)
    → AsksFront name holds most O Q old new → AsksFront name holds most P R old new
front_for name holds most O P Q R old new ended refused a = record {
  found = a.found;
  told = a.told;
  there = there a.there;
  made = a.made;
  unless = λ e. refused (a.unless e);
  noted = a.noted;
}
  where
    there : IsFound a.found ⊎ O → IsFound a.found ⊎ P
    there (inl is) = inl is
    there (inr o) = inr (ended o)

-- and of files that hold the same
pub front_on : (name : List ℕ) (held holds : Option (List NamedFile)) (O P Q R : Type 0) (old new : FileNotes) → held ≡ holds → (O → P) → (Q → R)
    → AsksFront name held header_bytes O Q old new → AsksFront name holds header_bytes P R old new
front_on name held holds O P Q R old new same ended refused a =
    subst (λ (h : Option (List NamedFile)). AsksFront name h header_bytes P R old new) same (front_for name held header_bytes O P Q R old new ended refused a)

-- one name more
headers_more : (names : List (List ℕ)) (name : List ℕ) (holds : Option (List NamedFile)) (a b c : FileNotes)
    → AsksHeaders names holds a b → AsksFront name holds header_bytes ⊥ ⊥ b c → AsksHeaders (names ++ name ∷ []) holds a c
headers_more [] name holds a b c so_far front = (c, subst (λ (n : FileNotes). AsksFront name holds header_bytes ⊥ ⊥ n c) so_far front, refl)
headers_more (x ∷ names) name holds a b c so_far front = (so_far.0, so_far.1, headers_more names name holds so_far.0 b c so_far.2 front)

-- the names so far, and the next one
pub headers_taken : (names : List (Bor (List ℕ))) (i : ℕ) (d : Bor (List ℕ)) (holds : Option (List NamedFile)) (a b c : FileNotes) → i < length names
    → AsksHeaders (map (λ name. name.now) (take i names)) holds a b → AsksFront (get_or names i d).now holds header_bytes ⊥ ⊥ b c
    → AsksHeaders (map (λ name. name.now) (take (i + 1) names)) holds a c
headers_taken names i d holds a b c below so_far front =
    let f : Bor (List ℕ) → List ℕ = λ (name : Bor (List ℕ)). name.now in
    let next = get_or names i d in
    let more : map f (take i names ++ next ∷ []) ≡ map f (take i names) ++ next.now ∷ [] = map-append f (take i names) (next ∷ []) in
    let all : take (i + 1) names ≡ take i names ++ next ∷ [] = take_more names i d below in
    subst (λ (xs : List (Bor (List ℕ))). AsksHeaders (map f xs) holds a c) (sym all)
    (subst (λ (xs : List (List ℕ)). AsksHeaders xs holds a c) (sym more) (headers_more (map f (take i names)) next.now holds a b c so_far front))

-- all names
pub headers_all : (names : List (Bor (List ℕ))) (i : ℕ) (holds : Option (List NamedFile)) (a b : FileNotes) → length names ≤ i
    → AsksHeaders (map (λ name. name.now) (take i names)) holds a b → AsksHeaders (map (λ name. name.now) names) holds a b
headers_all names i holds a b past so_far =
    subst (λ (xs : List (Bor (List ℕ))). AsksHeaders (map (λ (name : Bor (List ℕ)). name.now) xs) holds a b) (take_all i names past) so_far

none_more : (fault : Fault) (names : List (List ℕ)) (holds : Option (List NamedFile)) (a : FileNotes) → fault ≡ faults.NoMemory
    → AsksSomeHeaders fault names holds a a
none_more fault [] holds a e = (e, refl)
none_more fault (name ∷ names) holds a e = inl (e, refl)

some_after : (fault : Fault) (xs rest : List (List ℕ)) (holds : Option (List NamedFile)) (a b c : FileNotes)
    → AsksHeaders xs holds a b → AsksSomeHeaders fault rest holds b c → AsksSomeHeaders fault (xs ++ rest) holds a c
some_after fault [] rest holds a b c so_far some = subst (λ (n : FileNotes). AsksSomeHeaders fault rest holds n c) so_far some
some_after fault (x ∷ xs) rest holds a b c so_far some =
    inr (inr (so_far.0, so_far.1, some_after fault xs rest holds so_far.0 b c so_far.2 some))

some_from : (fault : Fault) (names : List (Bor (List ℕ))) (i : ℕ) (holds : Option (List NamedFile)) (a b c : FileNotes)
    → AsksHeaders (map (λ name. name.now) (take i names)) holds a b → AsksSomeHeaders fault (map (λ name. name.now) (drop i names)) holds b c
    → AsksSomeHeaders fault (map (λ name. name.now) names) holds a c
some_from fault names i holds a b c so_far some =
    let f : Bor (List ℕ) → List ℕ = λ (name : Bor (List ℕ)). name.now in
    let all : map f names ≡ map f (take i names) ++ map f (drop i names) =
    ap (map f) (sym (take-append-drop i names)) ∙ map-append f (take i names) (drop i names) in
    subst (λ (xs : List (List ℕ)). AsksSomeHeaders fault xs holds a c) (sym all)
    (some_after fault (map f (take i names)) (map f (drop i names)) holds a b c so_far some)

-- the names so far, and no more: memory was refused
pub some_so_far : (names : List (Bor (List ℕ))) (i : ℕ) (holds : Option (List NamedFile)) (a b : FileNotes)
    → AsksHeaders (map (λ name. name.now) (take i names)) holds a b → AsksSomeHeaders faults.NoMemory (map (λ name. name.now) names) holds a b
some_so_far names i holds a b so_far =
    some_from faults.NoMemory names i holds a b b so_far
    (none_more faults.NoMemory (map (λ (name : Bor (List ℕ)). name.now) (drop i names)) holds b refl)

-- the names so far, and the next one, which is at fault
pub some_next : (fault : Fault) (names : List (Bor (List ℕ))) (i : ℕ) (d : Bor (List ℕ)) (holds : Option (List NamedFile)) (a b c : FileNotes)
    → i < length names → AsksHeaders (map (λ name. name.now) (take i names)) holds a b → IsAbout fault (get_or names i d).now
    → AsksFront (get_or names i d).now holds header_bytes (Unit {0}) (fault ≡ faults.NoMemory) b c
    → AsksSomeHeaders fault (map (λ name. name.now) names) holds a c
some_next fault names i d holds a b c below so_far about front =
    let f : Bor (List ℕ) → List ℕ = λ (name : Bor (List ℕ)). name.now in
    let left : drop i names ≡ get_or names i d ∷ drop (i + 1) names =
    subst (λ (k : ℕ). drop i names ≡ get_or names i d ∷ drop k names) (sym (add-one i)) (drop-cons names i d below) in
    some_from fault names i holds a b c so_far
    (subst (λ (xs : List (Bor (List ℕ))). AsksSomeHeaders fault (map f xs) holds b c) (sym left) (inr (inl (about, front))))

-- the fault of a file that wasn't read is about it
pub about_unread : (name : Bor (List ℕ)) (unread : Unread) → IsAbout (fault_of name unread) name.now
about_unread name unreads.Absent = refl
about_unread name (unreads.NotImage reason) = refl
about_unread name unreads.FileFault = tt
about_unread name unreads.NoMemory = tt

-- What follows the schedule.

-- nothing, where the schedule itself isn't good
pub none_after : (name : List ℕ) (read : Result (List ℕ) Unread) (f : Faults) (fault : Fault) (names : List (List ℕ)) (holds : Option (List NamedFile))
    (a : FileNotes) → EndsSchedule {A = Global} name read f (Err fault) → AsksAfterSchedule name (Err fault) names holds a a
none_after name read f (faults.BadSchedule line) names holds a ends = refl
none_after name read f (faults.Absent absent) names holds a ends = inl (ends.0, refl)
none_after name read f faults.FileFault names holds a ends = inl (tt, refl)
none_after name read f faults.NoMemory names holds a ends = inl (tt, refl)
none_after name read f _ names holds a ends = absurd ends

-- nothing, where memory was refused before the images
pub none_starved : (schedule : List ℕ) (names : List (List ℕ)) (holds : Option (List NamedFile)) (a : FileNotes)
    → AsksAfterSchedule schedule (Err faults.NoMemory) names holds a a
none_starved schedule names holds a = inl (tt, refl)

-- some images, of which one wasn't opened
pub some_images : (schedule : List ℕ) (fault : Fault) (names : List (List ℕ)) (holds : Option (List NamedFile)) (a b : FileNotes) → IsImageFault fault
    → AsksSomeHeaders fault names holds a b → AsksAfterSchedule schedule (Err fault) names holds a b
some_images schedule (faults.Absent name) names holds a b kind some = inr some
some_images schedule (faults.NotImage name reason) names holds a b kind some = some
some_images schedule faults.FileFault names holds a b kind some = inr some
some_images schedule faults.NoMemory names holds a b kind some = inr some
some_images schedule _ names holds a b kind some = absurd kind

short_one : (P : Fault → Type 0) (b c : Bool) (x y fault : Fault) → (if b then Some x else (if c then Some y else None)) ≡ Some fault
    → P x → P y → P fault
short_one P true c x y fault e first second = subst P (same_Some x fault e) first
short_one P false true x y fault e first second = subst P (same_Some y fault e) second
short_one P false false x y fault e first second = absurd cc

-- all images, where the devices are too short
pub all_headers : (schedule : List ℕ) (swap zero_blocks one_blocks : ℕ) (fault : Fault) (names : List (List ℕ)) (holds : Option (List NamedFile))
    (a b : FileNotes)
    → device_fault swap zero_blocks one_blocks ≡ Some fault → AsksHeaders names holds a b → AsksAfterSchedule schedule (Err fault) names holds a b
all_headers schedule swap zero_blocks one_blocks fault names holds a b short all =
    short_one (λ (f : Fault). AsksAfterSchedule schedule (Err f) names holds a b) (nat_lt zero_blocks (zero_needs swap)) (nat_lt one_blocks (one_needs swap))
    (faults.ShortDevice 0 zero_blocks (zero_needs swap)) (faults.ShortDevice 1 one_blocks (one_needs swap)) fault short all all

-- The whole opening.

-- the schedule isn't good
pub opening_ends : (schedule : List ℕ) (names : List (List ℕ)) (holds : Option (List NamedFile)) (read : Result (List ℕ) Unread) (f : Faults) (fault : Fault)
    (a b : FileNotes) → EndsSchedule {A = Global} schedule read f (Err fault)
    → AsksFront schedule holds schedule_bytes (is_err (let r : Result (Vec Event Global) Fault = Err fault in r) ≡ true)
    ((let r : Result (Vec Event Global) Fault = Err fault in r) ≡ Err faults.NoMemory) a b
    → AsksOpening schedule names holds (Err fault) a b
opening_ends schedule names holds read f fault a b ends front = record {
  between = b;
  schedule_asked = front_for schedule holds schedule_bytes _ _ _ _ a b (λ e. refl)
      (λ e. let same : fault ≡ faults.NoMemory = cc in ap (λ (x : Fault). let r : Result Opening Fault = Err x in r) same) front;
  images_asked = none_after schedule read f fault names holds b ends;
}

-- it is good, and this is what follows
pub opening_goes_on : (schedule : List ℕ) (names : List (List ℕ)) (held holds : Option (List NamedFile)) (lines : Vec Event Global)
    (result : Result Opening Fault) (a b c : FileNotes) → held ≡ holds
    → AsksFront schedule holds schedule_bytes (is_err (let r : Result (Vec Event Global) Fault = Ok lines in r) ≡ true)
    ((let r : Result (Vec Event Global) Fault = Ok lines in r) ≡ Err faults.NoMemory) a b
    → AsksAfterSchedule schedule result names held b c → AsksOpening schedule names holds result a c
opening_goes_on schedule names held holds lines result a b c same front after = record {
  between = b;
  schedule_asked = front_for schedule holds schedule_bytes _ _ _ _ a b (λ e. absurd cc) (λ e. absurd cc) front;
  images_asked = subst (λ (h : Option (List NamedFile)). AsksAfterSchedule schedule result names h b c) same after;
}
