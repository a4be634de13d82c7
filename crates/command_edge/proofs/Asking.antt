-- What was asked of files by what they found.
use Rattle.std.proofs.Common.{◌≡◌, ◌⊎◌, inl, inr, ℕ, Bool, true, false, min, nat_le, ◌+◌, ◌<◌, ◌≤◌, List, [], ◌∷◌, ◌++◌, Option, Some, None, Result, Ok, Err, refl, sym, ap, ◌∙◌, subst, arith}
use Rattle.std.specs.Prelude.{bytes_eq}
use Rattle.std.proofs.lemmas.List.Quantifiers.{position-Some}
use Rattle.io_edge.specs.FileHolding.{NamedFile, AnswersName, HasRange, no_file}
use Rattle.io_edge.specs.FileRequests.{FileRequest, FileFind, FileNotes, after_request, after_requests}
use Rattle.io_edge.specs.Transfer.{range_asked}
use Rattle.io_edge.specs.declared.Found.{Found}
use Rattle.io_edge.specs.declared.Found.TheVariants.{Is, Absent, Failed}
use Rattle.command_edge.specs.declared.answers.Unread.{Unread}
use Rattle.command_edge.specs.declared.answers.Unread.TheVariants as unreads
use Rattle.command_edge.specs.Asked.{FrontMade, front_asked, whole_asked, if_made, AsksFront, AsksWhole}

-- the first bytes of a file that was found, as many as it has at most
pub found_range : (holds : Option (List NamedFile)) (name : List ℕ) (id len count : ℕ) → AnswersName holds name (Is id len) → count ≤ len
    → HasRange holds id 0 count
found_range None name id len count a few = tt
found_range (Some files) name id len count a few =
    let p = position-Some (λ (file : NamedFile). bytes_eq file.name name) files id no_file a.0 in
    let size = a.1 in
    (p.0, omega arith)

-- a read came after the search
made_after : (name : List ℕ) (requests : List FileRequest) (old mid new : FileNotes) → mid ≡ after_request (FileFind name) old
    → new ≡ after_requests requests mid → new ≡ after_requests (FileFind name ∷ requests) old
made_after name requests old mid new found read = read ∙ ap (after_requests requests) found

pub front_made : {A : Type 0} (name : List ℕ) (holds : Option (List NamedFile)) (most : ℕ) (Ended Refused : Type 0) (result : Result A Unread) (id len : ℕ)
    (old mid new : FileNotes) → AnswersName holds name (Is id len) → mid ≡ after_request (FileFind name) old
    → FrontMade result id (min len most) mid new → (result ≡ Err unreads.NoMemory → Refused) → AsksFront name holds most Ended Refused old new
front_made name holds most Ended Refused (Ok x) id len old mid new told found read refused = record {
  found = Is id len;
  told = told;
  there = inl tt;
  made = true;
  unless = λ e. absurd cc;
  noted = made_after name (range_asked id 0 (min len most)) old mid new found read;
}
front_made name holds most Ended Refused (Err unreads.NoMemory) id len old mid new told found read refused = record {
  found = Is id len;
  told = told;
  there = inl tt;
  made = false;
  unless = λ e. refused refl;
  noted = read ∙ found;
}
front_made name holds most Ended Refused (Err _) id len old mid new told found read refused = record {
  found = Is id len;
  told = told;
  there = inl tt;
  made = true;
  unless = λ e. absurd cc;
  noted = made_after name (range_asked id 0 (min len most)) old mid new found read;
}

pub front_absent : (name : List ℕ) (holds : Option (List NamedFile)) (most : ℕ) (Ended Refused : Type 0) (old new : FileNotes)
    → AnswersName holds name Absent → Ended → new ≡ after_request (FileFind name) old → AsksFront name holds most Ended Refused old new
front_absent name holds most Ended Refused old new told ended found = record { found = Absent; told = told; there = inr ended; made = true; unless = λ e. absurd cc; noted = found }

pub front_failed : (name : List ℕ) (holds : Option (List NamedFile)) (most : ℕ) (Ended Refused : Type 0) (old new : FileNotes)
    → AnswersName holds name Failed → Ended → new ≡ after_request (FileFind name) old → AsksFront name holds most Ended Refused old new
front_failed name holds most Ended Refused old new told ended found = record { found = Failed; told = told; there = inr ended; made = true; unless = λ e. absurd cc; noted = found }

-- The same of a file that is read whole.

-- one that has more bytes than may be read
pub whole_long : (name : List ℕ) (holds : Option (List NamedFile)) (most : ℕ) (Ended Refused : Type 0) (id len : ℕ) (old new : FileNotes)
    → AnswersName holds name (Is id len) → nat_le len most ≡ false → new ≡ after_request (FileFind name) old → AsksWhole name holds most Ended Refused old new
whole_long name holds most Ended Refused id len old new told long found = record {
  found = Is id len;
  told = told;
  there = inl tt;
  made = true;
  unless = λ e. absurd cc;
  noted = found ∙ ap (λ (b : Bool). after_requests (FileFind name ∷ if_made b (range_asked id 0 len)) old) (sym long);
}

whole_is : (name : List ℕ) (most id len : ℕ) (old new : FileNotes) → nat_le len most ≡ true
    → new ≡ after_requests (FileFind name ∷ range_asked id 0 len) old → new ≡ after_requests (FileFind name ∷ whole_asked (Is id len) most) old
whole_is name most id len old new short noted = noted ∙ ap (λ (b : Bool). after_requests (FileFind name ∷ if_made b (range_asked id 0 len)) old) (sym short)

-- a read that was refused memory was refused it, whatever it was to bring
pub refused_as : {A B : Type 0} (e : Unread) → (let r : Result A Unread = Err e in r) ≡ Err unreads.NoMemory
    → (let r : Result B Unread = Err e in r) ≡ Err unreads.NoMemory
refused_as e refused = let same : e ≡ unreads.NoMemory = cc in ap (λ (x : Unread). let r : Result _ Unread = Err x in r) same

pub whole_made : {A : Type 0} (name : List ℕ) (holds : Option (List NamedFile)) (most : ℕ) (Ended Refused : Type 0) (result : Result A Unread) (id len : ℕ)
    (old mid new : FileNotes) → AnswersName holds name (Is id len) → nat_le len most ≡ true → mid ≡ after_request (FileFind name) old
    → FrontMade result id len mid new → (result ≡ Err unreads.NoMemory → Refused) → AsksWhole name holds most Ended Refused old new
whole_made name holds most Ended Refused (Ok x) id len old mid new told short found read refused = record {
  found = Is id len;
  told = told;
  there = inl tt;
  made = true;
  unless = λ e. absurd cc;
  noted = whole_is name most id len old new short (made_after name (range_asked id 0 len) old mid new found read);
}
whole_made name holds most Ended Refused (Err unreads.NoMemory) id len old mid new told short found read refused = record {
  found = Is id len;
  told = told;
  there = inl tt;
  made = false;
  unless = λ e. refused refl;
  noted = read ∙ found;
}
whole_made name holds most Ended Refused (Err _) id len old mid new told short found read refused = record {
  found = Is id len;
  told = told;
  there = inl tt;
  made = true;
  unless = λ e. absurd cc;
  noted = whole_is name most id len old new short (made_after name (range_asked id 0 len) old mid new found read);
}

pub whole_absent : (name : List ℕ) (holds : Option (List NamedFile)) (most : ℕ) (Ended Refused : Type 0) (old new : FileNotes)
    → AnswersName holds name Absent → Ended → new ≡ after_request (FileFind name) old → AsksWhole name holds most Ended Refused old new
whole_absent name holds most Ended Refused old new told ended found = record { found = Absent; told = told; there = inr ended; made = true; unless = λ e. absurd cc; noted = found }

pub whole_failed : (name : List ℕ) (holds : Option (List NamedFile)) (most : ℕ) (Ended Refused : Type 0) (old new : FileNotes)
    → AnswersName holds name Failed → Ended → new ≡ after_request (FileFind name) old → AsksWhole name holds most Ended Refused old new
whole_failed name holds most Ended Refused old new told ended found = record { found = Failed; told = told; there = inr ended; made = true; unless = λ e. absurd cc; noted = found }
