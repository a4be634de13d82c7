-- What was asked of an image that was found: its header, and what stands after it.
use Rattle.std.proofs.Common.{◌≡◌, inl, inr, ℕ, ◌-◌, Bool, true, false, min, List, [], ◌∷◌, ◌++◌, length, Option, Some, None, Result, Ok, Err, refl, sym, ap, ◌∙◌}
use Rattle.std.specs.Prelude.{is_ok, if◌then◌else◌}
use Rattle.std.proofs.lemmas.List.{append-nil}
use Rattle.io_edge.specs.FileHolding.{NamedFile, AnswersName, place_of, bytes_at}
use Rattle.io_edge.specs.FileRequests.{FileRequest, FileFind, FileNotes, after_request, after_requests}
use Rattle.io_edge.specs.Transfer.{range_asked}
use Rattle.io_edge.specs.declared.Found.TheVariants.{Is, Absent, Failed}
use Rattle.aout_image.specs.declared.Image.{Image}
use Rattle.aout_image.specs.Image.{judged_image, file_length_of}
use Rattle.command_edge.specs.declared.answers.Unread.{Unread}
use Rattle.command_edge.specs.declared.answers.Unread.TheVariants as unreads
use Rattle.command_edge.specs.Answering.{Answers, IsFailure, IsOfFoundFile}
use Rattle.command_edge.specs.Told.{facts_in, facts_told, facts_told_at}
use Rattle.command_edge.specs.Asked.{FrontMade, RestMade, if_made}
use Rattle.command_edge.specs.Looks.{AsksImage, IsUnread, IsUnfit, LoadMade, behind_header, image_asked}

-- requests after requests are one row of them
after_more : (xs ys : List FileRequest) (notes : FileNotes) → after_requests ys (after_requests xs notes) ≡ after_requests (xs ++ ys) notes
after_more [] ys notes = refl
after_more (x ∷ xs) ys notes = after_more xs ys (λ more. notes (x ∷ more))

-- a read came after another
read_after : (xs ys : List FileRequest) (old mid new : FileNotes) → mid ≡ after_requests xs old → new ≡ after_requests ys mid → new ≡ after_requests (xs ++ ys) old
read_after xs ys old mid new first next = next ∙ ap (after_requests ys) first ∙ after_more xs ys old

-- nothing was read behind it
none_after : (xs : List FileRequest) (old new : FileNotes) → new ≡ after_requests xs old → new ≡ after_requests (xs ++ []) old
none_after xs old new read = read ∙ ap (λ (rs : List FileRequest). after_requests rs old) (sym (append-nil xs))

-- a resized list has the length that was wanted
pub resized_long : {A E : Type 0} (r : Result A E) (v : A) (n m k : ℕ) → r ≡ Ok v → n ≡ (if is_ok r then m else k) → n ≡ m
resized_long (Ok x) v n m k good is = is
resized_long (Err e) v n m k good is = absurd cc

-- what the file at this place is, where it is told and has so many bytes
abbrev pub IsToldAs : Option (List NamedFile) → (id len : ℕ) → Result Image Unread → Type 0
IsToldAs holds id len facts = (files : List NamedFile) → holds ≡ Some files → len ≡ length (bytes_at files id) → facts_in (judged_image (bytes_at files id)) ≡ facts

-- its header wasn't read, or is that of no image
pub load_unheaded : (A C : Type 0) (view : A → Image) (e : Unread) (holds : Option (List NamedFile)) (id len : ℕ) (old new : FileNotes) → IsOfFoundFile e
    → ((files : List NamedFile) → holds ≡ Some files → len ≡ length (bytes_at files id) → Answers view (facts_in (judged_image (bytes_at files id))) (Err e))
    → FrontMade {A = A} (Err e) id (min len 32) old new → LoadMade {A = C} (Err e) holds id len old new
load_unheaded A C view unreads.Absent holds id len old new kind answers read = absurd kind
load_unheaded A C view (unreads.NotImage reason) holds id len old new kind answers read = record {
  behind = 0;
  as_told = inl (λ files is size. sym (ap behind_header (answers files is size)));
  unfit = λ u. refl;
  made = true;
  unless = λ e. absurd cc;
  noted = none_after (range_asked id 0 (min len 32)) old new read;
}
load_unheaded A C view unreads.FileFault holds id len old new kind answers read = record {
  behind = 0;
  as_told = inr (refl, tt);
  unfit = λ u. refl;
  made = true;
  unless = λ e. absurd cc;
  noted = none_after (range_asked id 0 (min len 32)) old new read;
}
load_unheaded A C view unreads.NoMemory holds id len old new kind answers read = record {
  behind = 0;
  as_told = inr (refl, tt);
  unfit = λ u. refl;
  made = false;
  unless = λ e. refl;
  noted = read;
}

told_behind : (holds : Option (List NamedFile)) (id len n : ℕ) (image : Image) → IsToldAs holds id len (Ok image) → n ≡ file_length_of image
    → (files : List NamedFile) → holds ≡ Some files → len ≡ length (bytes_at files id) → n - 32 ≡ behind_header (facts_in (judged_image (bytes_at files id)))
told_behind holds id len n image told same files is size = ap (λ (k : ℕ). k - 32) same ∙ sym (ap behind_header (told files is size))

-- it was, but what stands after it wasn't
pub load_unrested : (A C : Type 0) (e : Unread) (image : Image) (holds : Option (List NamedFile)) (id len n : ℕ) (old mid new : FileNotes) → IsFailure e
    → IsToldAs holds id len (Ok image) → n ≡ file_length_of image → mid ≡ after_requests (range_asked id 0 (min len 32)) old
    → RestMade {A = A} (Err e) id (n - 32) mid new → LoadMade {A = C} (Err e) holds id len old new
load_unrested A C unreads.Absent image holds id len n old mid new kind told same head read = absurd kind
load_unrested A C (unreads.NotImage reason) image holds id len n old mid new kind told same head read = absurd kind
load_unrested A C unreads.FileFault image holds id len n old mid new kind told same head read = record {
  behind = n - 32;
  as_told = inl (told_behind holds id len n image told same);
  unfit = λ u. absurd u;
  made = true;
  unless = λ e. absurd cc;
  noted = read_after (range_asked id 0 (min len 32)) (range_asked id 32 (n - 32)) old mid new head read;
}
load_unrested A C unreads.NoMemory image holds id len n old mid new kind told same head read = record {
  behind = 0;
  as_told = inr (refl, tt);
  unfit = λ u. refl;
  made = true;
  unless = λ e. absurd cc;
  noted = none_after (range_asked id 0 (min len 32)) old new (read ∙ head);
}

-- both were
pub load_whole : (C : Type 0) (x : C) (image : Image) (holds : Option (List NamedFile)) (id len n : ℕ) (old mid new : FileNotes)
    → IsToldAs holds id len (Ok image) → n ≡ file_length_of image → mid ≡ after_requests (range_asked id 0 (min len 32)) old
    → new ≡ after_requests (range_asked id 32 (n - 32)) mid → LoadMade {A = C} (Ok x) holds id len old new
load_whole C x image holds id len n old mid new told same head read = record {
  behind = n - 32;
  as_told = inl (told_behind holds id len n image told same);
  unfit = λ u. absurd u;
  made = true;
  unless = λ e. absurd cc;
  noted = read_after (range_asked id 0 (min len 32)) (range_asked id 32 (n - 32)) old mid new head read;
}

-- ---- by its name

told_by_name : (n : ℕ) (held holds : Option (List NamedFile)) (name : List ℕ) (id len : ℕ) → held ≡ holds → AnswersName holds name (Is id len)
    → ((files : List NamedFile) → held ≡ Some files → len ≡ length (bytes_at files id) → n ≡ behind_header (facts_in (judged_image (bytes_at files id))))
    → (files : List NamedFile) → holds ≡ Some files → n ≡ behind_header (facts_told files name)
told_by_name n held None name id len same answer told files is = absurd cc
told_by_name n held (Some list) name id len same answer told files is =
    let these : list ≡ files = cc in
    told list same answer.1 ∙ sym (ap (λ (p : Option ℕ). behind_header (facts_told_at list p)) answer.0) ∙ ap (λ (fs : List NamedFile). behind_header (facts_told fs name)) these

-- the image was found
pub image_found : {A : Type 0} (r : Result A Unread) (held holds : Option (List NamedFile)) (name : List ℕ) (id len : ℕ) (old mid new : FileNotes)
    → held ≡ holds → AnswersName holds name (Is id len) → mid ≡ after_request (FileFind name) old → LoadMade r held id len mid new
    → AsksImage name holds (IsUnread r) (r ≡ Err unreads.NoMemory) (IsUnfit r) old new
image_found r held holds name id len old mid new same answer found load = record {
  found = Is id len;
  told = answer;
  there = inl tt;
  behind = load.behind;
  as_told = elim load.as_told [ inl told ↦ inl (told_by_name load.behind held holds name id len same answer told) | inr none ↦ inr none ];
  unfit = load.unfit;
  made = load.made;
  unless = load.unless;
  noted = load.noted ∙ ap (after_requests (if_made load.made (image_asked (Is id len) load.behind))) found;
}

pub image_absent : {A : Type 0} (r : Result A Unread) (holds : Option (List NamedFile)) (name : List ℕ) (Refused Unfit : Type 0) (old new : FileNotes)
    → AnswersName holds name Absent → IsUnread r → new ≡ after_request (FileFind name) old → AsksImage name holds (IsUnread r) Refused Unfit old new
image_absent r holds name Refused Unfit old new answer ended found = record {
  found = Absent;
  told = answer;
  there = inr ended;
  behind = 0;
  as_told = inr (refl, ended);
  unfit = λ u. refl;
  made = true;
  unless = λ e. absurd cc;
  noted = found;
}

pub image_failed : {A : Type 0} (r : Result A Unread) (holds : Option (List NamedFile)) (name : List ℕ) (Refused Unfit : Type 0) (old new : FileNotes)
    → AnswersName holds name Failed → IsUnread r → new ≡ after_request (FileFind name) old → AsksImage name holds (IsUnread r) Refused Unfit old new
image_failed r holds name Refused Unfit old new answer ended found = record {
  found = Failed;
  told = answer;
  there = inr ended;
  behind = 0;
  as_told = inr (refl, ended);
  unfit = λ u. refl;
  made = true;
  unless = λ e. absurd cc;
  noted = found;
}
