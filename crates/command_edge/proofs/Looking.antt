-- What was asked of the files that a command reads: the same by what it comes to, and one file after another.
use Rattle.std.proofs.Common.{◌≡◌, ◌⊎◌, inl, inr, ℕ, ◌+◌, ◌<◌, true, List, [], ◌∷◌, ◌++◌, length, map, take, drop, get_or, add-one, drop-cons, Option, Some, Result, Ok, Err, Bor, is_err, refl, sym, ap, ◌∙◌, subst}
use Rattle.std.proofs.lemmas.List.{take_more, take-append-drop}
use Rattle.io_edge.specs.FileHolding.{NamedFile}
use Rattle.io_edge.specs.FileRequests.{FileNotes}
use Rattle.command_edge.specs.declared.answers.Unread.{Unread}
use Rattle.command_edge.specs.declared.answers.Unread.TheVariants as unreads
use Rattle.command_edge.specs.declared.fault.Fault.{Fault}
use Rattle.command_edge.specs.declared.fault.Fault.TheVariants as faults
use Rattle.command_edge.specs.Answering.{IsOfAnyFile}
use Rattle.command_edge.specs.Told.{facts_told}
use Rattle.command_edge.specs.Ending.{Ending, fault_of}
use Rattle.command_edge.specs.Asked.{IsFound, AsksFront, AsksWhole}
use Rattle.command_edge.specs.Looks.{AsksImage, IsUnread, IsUnfit, behind_header, Look, FrontOf, WholeOf, ImageOf, AsksLook, AsksAll, StopsAt, IsLack, IsNoImage, AsksUpTo, Asks, image_looks}

there_for : (X : Type 0) (O P : Type 0) → (O → P) → X ⊎ O → X ⊎ P
there_for X O P ended (inl is) = inl is
there_for X O P ended (inr o) = inr (ended o)

told_for : (X Y O P : Type 0) → (O → P) → X ⊎ (Y × O) → X ⊎ (Y × P)
told_for X Y O P ended (inl is) = inl is
told_for X Y O P ended (inr o) = inr (o.0, ended o.1)

-- the same by what these come to
pub look_for : (look : Look) (holds : Option (List NamedFile)) (O P Q R U V : Type 0) (old new : FileNotes) → (O → P) → (Q → R) → (V → U)
    → AsksLook look holds O Q U old new → AsksLook look holds P R V old new
look_for (FrontOf name most) holds O P Q R U V old new ended refused unfit a = record {
  found = a.found;
  told = a.told;
  there = there_for (IsFound a.found) O P ended a.there;
  made = a.made;
  unless = λ e. refused (a.unless e);
  noted = a.noted;
}
look_for (WholeOf name most) holds O P Q R U V old new ended refused unfit a = record {
  found = a.found;
  told = a.told;
  there = there_for (IsFound a.found) O P ended a.there;
  made = a.made;
  unless = λ e. refused (a.unless e);
  noted = a.noted;
}
look_for (ImageOf name) holds O P Q R U V old new ended refused unfit a = record {
  found = a.found;
  told = a.told;
  there = there_for (IsFound a.found) O P ended a.there;
  behind = a.behind;
  as_told = told_for ((files : List NamedFile) → holds ≡ Some files → a.behind ≡ behind_header (facts_told files name)) (a.behind ≡ 0) O P ended a.as_told;
  unfit = λ v. a.unfit (unfit v);
  made = a.made;
  unless = λ e. refused (a.unless e);
  noted = a.noted;
}

-- ---- one file

-- it was read to its end
pub look_all : (look : Look) (holds : Option (List NamedFile)) (O Q U : Type 0) (old new : FileNotes) → (O → ⊥) → (Q → ⊥)
    → AsksLook look holds O Q U old new → AsksAll (look ∷ []) holds old new
look_all look holds O Q U old new ended refused a = (new, look_for look holds O ⊥ Q ⊥ U ⊥ old new ended refused (λ v. absurd v) a, refl)

-- it was read, but isn't what it should be
pub look_bad : (fault : Fault) (look : Look) (holds : Option (List NamedFile)) (O Q U : Type 0) (old new : FileNotes) → StopsAt fault look
    → (IsNoImage fault → ⊥) → (O → ⊥) → (Q → ⊥) → AsksLook look holds O Q U old new → AsksUpTo fault (look ∷ []) holds old new
look_bad fault look holds O Q U old new stops image ended refused a =
    inr (inl (
      stops,
      look_for look holds O (IsLack fault) Q (fault ≡ faults.NoMemory) U (IsNoImage fault) old new (λ o. absurd (ended o)) (λ q. absurd (refused q))
          (λ v. absurd (image v)) a,
    ))

unread_is : {A : Type 0} (e : Unread) → (let r : Result A Unread = Err e in r) ≡ Err unreads.NoMemory → e ≡ unreads.NoMemory
unread_is e same = cc

-- the first bytes of one that wasn't read
pub front_unread : (A : Type 0) (name : Bor (List ℕ)) (most : ℕ) (unread : Unread) (holds : Option (List NamedFile)) (old new : FileNotes) → IsOfAnyFile unread
    → AsksFront name.now holds most (is_err (let r : Result A Unread = Err unread in r) ≡ true) ((let r : Result A Unread = Err unread in r) ≡ Err unreads.NoMemory) old new
    → AsksUpTo (fault_of name unread) (FrontOf name.now most ∷ []) holds old new
front_unread A name most unreads.Absent holds old new kind a =
    inr (inl (refl, look_for (FrontOf name.now most) holds _ (Unit {0}) _ _ ⊥ ⊥ old new (λ e. tt) (λ e. absurd cc) (λ v. v) a))
front_unread A name most (unreads.NotImage reason) holds old new kind a = absurd kind
front_unread A name most unreads.FileFault holds old new kind a =
    inr (inl (tt, look_for (FrontOf name.now most) holds _ (Unit {0}) _ _ ⊥ ⊥ old new (λ e. tt) (λ e. absurd cc) (λ v. v) a))
front_unread A name most unreads.NoMemory holds old new kind a =
    inr (inl (tt, look_for (FrontOf name.now most) holds _ (Unit {0}) _ _ ⊥ ⊥ old new (λ e. tt) (λ e. refl) (λ v. v) a))

-- all bytes of one that wasn't
pub whole_unread : (A : Type 0) (name : Bor (List ℕ)) (most : ℕ) (unread : Unread) (holds : Option (List NamedFile)) (old new : FileNotes) → IsOfAnyFile unread
    → AsksWhole name.now holds most (is_err (let r : Result A Unread = Err unread in r) ≡ true) ((let r : Result A Unread = Err unread in r) ≡ Err unreads.NoMemory) old new
    → AsksUpTo (fault_of name unread) (WholeOf name.now most ∷ []) holds old new
whole_unread A name most unreads.Absent holds old new kind a =
    inr (inl (refl, look_for (WholeOf name.now most) holds _ (Unit {0}) _ _ ⊥ ⊥ old new (λ e. tt) (λ e. absurd cc) (λ v. v) a))
whole_unread A name most (unreads.NotImage reason) holds old new kind a = absurd kind
whole_unread A name most unreads.FileFault holds old new kind a =
    inr (inl (tt, look_for (WholeOf name.now most) holds _ (Unit {0}) _ _ ⊥ ⊥ old new (λ e. tt) (λ e. absurd cc) (λ v. v) a))
whole_unread A name most unreads.NoMemory holds old new kind a =
    inr (inl (tt, look_for (WholeOf name.now most) holds _ (Unit {0}) _ _ ⊥ ⊥ old new (λ e. tt) (λ e. refl) (λ v. v) a))

-- an image that wasn't read
pub image_unread : (A : Type 0) (name : Bor (List ℕ)) (unread : Unread) (holds : Option (List NamedFile)) (old new : FileNotes)
    → AsksImage name.now holds (IsUnread (let r : Result A Unread = Err unread in r)) ((let r : Result A Unread = Err unread in r) ≡ Err unreads.NoMemory)
    (IsUnfit (let r : Result A Unread = Err unread in r)) old new
    → AsksUpTo (fault_of name unread) (ImageOf name.now ∷ []) holds old new
image_unread A name unreads.Absent holds old new a = inr (inl (refl, look_for (ImageOf name.now) holds _ (Unit {0}) _ _ _ ⊥ old new (λ e. tt) (λ e. absurd cc) (λ v. absurd v) a))
image_unread A name (unreads.NotImage reason) holds old new a =
    inr (inl (refl, look_for (ImageOf name.now) holds _ ⊥ _ _ _ (Unit {0}) old new (λ e. e) (λ e. absurd cc) (λ v. v) a))
image_unread A name unreads.FileFault holds old new a = inr (inl (tt, look_for (ImageOf name.now) holds _ (Unit {0}) _ _ _ ⊥ old new (λ e. tt) (λ e. absurd cc) (λ v. absurd v) a))
image_unread A name unreads.NoMemory holds old new a = inr (inl (tt, look_for (ImageOf name.now) holds _ (Unit {0}) _ _ _ ⊥ old new (λ e. tt) (λ e. refl) (λ v. absurd v) a))

-- ---- one after another

-- some, and then others
pub all_then : (looks more : List Look) (holds : Option (List NamedFile)) (a b c : FileNotes) → AsksAll looks holds a b → AsksAll more holds b c
    → AsksAll (looks ++ more) holds a c
all_then [] more holds a b c first next = subst (λ (n : FileNotes). AsksAll more holds n c) first next
all_then (look ∷ looks) more holds a b c first next = (first.0, first.1, all_then looks more holds first.0 b c first.2 next)

pub up_to_then : (fault : Fault) (looks more : List Look) (holds : Option (List NamedFile)) (a b c : FileNotes) → AsksAll looks holds a b
    → AsksUpTo fault more holds b c → AsksUpTo fault (looks ++ more) holds a c
up_to_then fault [] more holds a b c first next = subst (λ (n : FileNotes). AsksUpTo fault more holds n c) first next
up_to_then fault (look ∷ looks) more holds a b c first next = inr (inr (first.0, first.1, up_to_then fault looks more holds first.0 b c first.2 next))

-- none, where memory was refused
pub none_up_to : (fault : Fault) (looks : List Look) (holds : Option (List NamedFile)) (a : FileNotes) → fault ≡ faults.NoMemory → AsksUpTo fault looks holds a a
none_up_to fault [] holds a e = (e, refl)
none_up_to fault (look ∷ looks) holds a e = inl (e, refl)

-- some up to the one at fault, and so none of others
pub up_to_more : (fault : Fault) (looks more : List Look) (holds : Option (List NamedFile)) (a b : FileNotes) → AsksUpTo fault looks holds a b
    → AsksUpTo fault (looks ++ more) holds a b
up_to_more fault [] more holds a b some = subst (λ (n : FileNotes). AsksUpTo fault more holds a n) (sym some.1) (none_up_to fault more holds a some.0)
up_to_more fault (look ∷ looks) more holds a b (inl none) = inl none
up_to_more fault (look ∷ looks) more holds a b (inr (inl here)) = inr (inl here)
up_to_more fault (look ∷ looks) more holds a b (inr (inr there)) = inr (inr (there.0, there.1, up_to_more fault looks more holds there.0 b there.2))

-- the same in files that hold the same
pub all_on : (looks : List Look) (held holds : Option (List NamedFile)) (a b : FileNotes) → held ≡ holds → AsksAll looks held a b → AsksAll looks holds a b
all_on looks held holds a b same = subst (λ (h : Option (List NamedFile)). AsksAll looks h a b) same

pub up_to_on : (fault : Fault) (looks : List Look) (held holds : Option (List NamedFile)) (a b : FileNotes) → held ≡ holds → AsksUpTo fault looks held a b
    → AsksUpTo fault looks holds a b
up_to_on fault looks held holds a b same = subst (λ (h : Option (List NamedFile)). AsksUpTo fault looks h a b) same

-- ---- by the ending

-- memory was refused at the last, whatever the fault was to be
lost_up_to : (fault : Fault) (looks : List Look) (holds : Option (List NamedFile)) (a b : FileNotes) → AsksUpTo fault looks holds a b
    → AsksUpTo faults.NoMemory looks holds a b
lost_up_to fault [] holds a b some = (refl, some.1)
lost_up_to fault (look ∷ looks) holds a b (inl none) = inl (refl, none.1)
lost_up_to fault (look ∷ looks) holds a b (inr (inl here)) =
    inr (inl (tt, look_for look holds (IsLack fault) (Unit {0}) (fault ≡ faults.NoMemory) _ (IsNoImage fault) ⊥ a b (λ e. tt) (λ e. refl) (λ v. absurd v) here.1))
lost_up_to fault (look ∷ looks) holds a b (inr (inr there)) = inr (inr (there.0, there.1, lost_up_to fault looks holds there.0 b there.2))

pub lost_asks : (fault : Fault) (looks : List Look) (holds : Option (List NamedFile)) (a b : FileNotes)
    → Asks looks holds (let e : Ending = Err fault in e) a b → Asks looks holds (let e : Ending = Err faults.NoMemory in e) a b
lost_asks fault looks holds a b (inl all) = inl (tt, all.1)
lost_asks fault looks holds a b (inr some) = inr (lost_up_to fault looks holds a b some)

-- all were, and then memory was refused
pub all_refused : (looks : List Look) (holds : Option (List NamedFile)) (a b : FileNotes) → AsksAll looks holds a b → AsksUpTo faults.NoMemory looks holds a b
all_refused [] holds a b all = (refl, all)
all_refused (look ∷ looks) holds a b all = inr (inr (all.0, all.1, all_refused looks holds all.0 b all.2))

-- ---- images by their names

abbrev now_of : Bor (List ℕ) → List ℕ
now_of name = name.now

looks_append : (xs ys : List (Bor (List ℕ))) → image_looks (map now_of (xs ++ ys)) ≡ image_looks (map now_of xs) ++ image_looks (map now_of ys)
looks_append [] ys = refl
looks_append (x ∷ xs) ys = ap (λ (ls : List Look). ImageOf x.now ∷ ls) (looks_append xs ys)

-- the names so far, and one more
pub looks_more : (names : List (Bor (List ℕ))) (i : ℕ) (d : Bor (List ℕ)) (held holds : Option (List NamedFile)) (a b c : FileNotes) → i < length names
    → held ≡ holds → AsksAll (image_looks (map (λ name. name.now) (take i names))) holds a b → AsksAll (ImageOf (get_or names i d).now ∷ []) held b c
    → AsksAll (image_looks (map (λ name. name.now) (take (i + 1) names))) holds a c
looks_more names i d held holds a b c below same so_far next =
    let more : image_looks (map now_of (take (i + 1) names)) ≡ image_looks (map now_of (take i names)) ++ ImageOf (get_or names i d).now ∷ [] =
    ap (λ (xs : List (Bor (List ℕ))). image_looks (map now_of xs)) (take_more names i d below) ∙ looks_append (take i names) (get_or names i d ∷ []) in
    subst (λ (ls : List Look). AsksAll ls holds a c) (sym more)
    (all_then (image_looks (map now_of (take i names))) (ImageOf (get_or names i d).now ∷ []) holds a b c so_far (all_on (ImageOf (get_or names i d).now ∷ []) held holds b c same next))

-- the names so far, and the next one, which is at fault
pub looks_next : (fault : Fault) (names : List (Bor (List ℕ))) (i : ℕ) (d : Bor (List ℕ)) (held holds : Option (List NamedFile)) (a b c : FileNotes)
    → i < length names → held ≡ holds → AsksAll (image_looks (map (λ name. name.now) (take i names))) holds a b
    → AsksUpTo fault (ImageOf (get_or names i d).now ∷ []) held b c → AsksUpTo fault (image_looks (map (λ name. name.now) names)) holds a c
looks_next fault names i d held holds a b c below same so_far next =
    let left : drop i names ≡ get_or names i d ∷ drop (i + 1) names =
    subst (λ (k : ℕ). drop i names ≡ get_or names i d ∷ drop k names) (sym (add-one i)) (drop-cons names i d below) in
    let all : image_looks (map now_of names) ≡ image_looks (map now_of (take i names)) ++ image_looks (map now_of (get_or names i d ∷ drop (i + 1) names)) =
    ap (λ (xs : List (Bor (List ℕ))). image_looks (map now_of xs)) (sym (take-append-drop i names)) ∙ looks_append (take i names) (drop i names)
    ∙ ap (λ (xs : List (Bor (List ℕ))). image_looks (map now_of (take i names)) ++ image_looks (map now_of xs)) left in
    subst (λ (ls : List Look). AsksUpTo fault ls holds a c) (sym all)
    (up_to_then fault (image_looks (map now_of (take i names))) (image_looks (map now_of (get_or names i d ∷ drop (i + 1) names))) holds a b c so_far
    (up_to_more fault (ImageOf (get_or names i d).now ∷ []) (image_looks (map now_of (drop (i + 1) names))) holds b c
    (up_to_on fault (ImageOf (get_or names i d).now ∷ []) held holds b c same next)))
