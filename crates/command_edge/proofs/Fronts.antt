-- What was read of a file's front is what is told.
use Rattle.std.proofs.Common.{◌≡◌, ◌⊎◌, inl, inr, ℕ, ◌+◌, ◌-◌, ◌<◌, ◌≤◌, min, List, ◌++◌, length, take, drop, replicate, Option, Some, None, Result, Ok, Err, refl, sym, ap, ◌∙◌, subst, arith}
use Rattle.std.specs.Prelude.{IfOk, IfErr, OnOk, IsTrue, Bool, true, false, is_ok, if◌then◌else◌}
use Rattle.std.proofs.lemmas.Bool.{cases_lt}
use Rattle.std.proofs.lemmas.List.{take_all, length-append, length-replicate, length-drop, length-take-le, take-take, take-append-drop, take-append-le}
use Rattle.std.proofs.lemmas.Slice.{between_to_end, between-put_mid}
use borrow.Rule.Slice.PartMut.{put_mid, same_len_mid}
use Rattle.std.proofs.Math.Seq.{take-add, take-append_seam}
use Rattle.io_edge.specs.Count.{Rose}
use Rattle.io_edge.specs.FileHolding.{NamedFile, place_of, bytes_at, file_range, HoldsRange}
use Rattle.aout_image.specs.declared.Image.{Image}
use Rattle.aout_image.specs.declared.Judged.TheVariants.{Is, NotImage as No}
use Rattle.aout_image.specs.Image.{Loaded, judged_image, judged_of, file_length_of, is_paged, NeedsNoMore}
use Rattle.aout_image.proofs.Images.{text_offset_at_least}
use Rattle.command_edge.specs.declared.answers.Unread.{Unread}
use Rattle.command_edge.specs.declared.answers.Unread.TheVariants.{Absent, NotImage, FileFault, NoMemory}
use Rattle.command_edge.specs.Answering.{Answers, CountsFault, CountsFaults, FailsInOrder, IsFailure, IsOfFoundFile}
use Rattle.command_edge.specs.Told.{bytes_told, bytes_told_at, facts_in, image_in, IsImageOf}

take_least : (bytes : List ℕ) (most : ℕ) → take (min (length bytes) most) bytes ≡ take most bytes
take_least bytes most = go (cases_lt (length bytes) most)
  where
    go : (length bytes < most) ⊎ (most ≤ length bytes) → take (min (length bytes) most) bytes ≡ take most bytes
    go (inl short) = take_all (min (length bytes) most) bytes (omega arith) ∙ sym (take_all most bytes (omega arith))
    go (inr long) = let k : min (length bytes) most ≡ most = omega arith in ap (λ (m : ℕ). take m bytes) k

-- so many bytes of the front, as they were read
pub front_of : (holds : Option (List NamedFile)) (list : List NamedFile) (id len most : ℕ) (front : List ℕ) → holds ≡ Some list
    → len ≡ length (bytes_at list id)
    → length front ≡ min len most → HoldsRange holds id 0 front → front ≡ take most (bytes_at list id)
front_of holds list id len most front told size count held =
    let here : front ≡ file_range (bytes_at list id) 0 (length front) = subst (λ (h : Option (List NamedFile)). HoldsRange h id 0 front) told held in
    let many : length front ≡ min (length (bytes_at list id)) most = count ∙ ap (λ (n : ℕ). min n most) size in
    here ∙ ap (λ (n : ℕ). take n (bytes_at list id)) many ∙ take_least (bytes_at list id) most

pub front_answers : {A : Type 0} (view : A → List ℕ) (r : Result A Unread) (holds : Option (List NamedFile)) (list : List NamedFile)
    (name : List ℕ) (id len most : ℕ)
    → holds ≡ Some list → place_of list name ≡ Some id → len ≡ length (bytes_at list id)
    → IfOk r (λ bytes. HoldsRange holds id 0 (view bytes)) → IfOk r (λ bytes. length (view bytes) ≡ min len most) → IfErr r IsFailure
    → Answers view (bytes_told list name most) r
front_answers view (Ok bytes) holds list name id len most told place size held count failure =
    ap (λ (p : Option ℕ). bytes_told_at list p most) place ∙ ap (λ (xs : List ℕ). Ok xs) (sym (front_of holds list id len most (view bytes) told size count held))
front_answers view (Err Absent) holds list name id len most told place size held count failure = absurd failure
front_answers view (Err (NotImage reason)) holds list name id len most told place size held count failure = absurd failure
front_answers view (Err FileFault) holds list name id len most told place size held count failure = tt
front_answers view (Err NoMemory) holds list name id len most told place size held count failure = tt

-- a header and the rest after it make the front of the file
pub joined : (holds : Option (List NamedFile)) (list : List NamedFile) (id len : ℕ) (head bytes : List ℕ) → holds ≡ Some list
    → take 32 (bytes_at list id) ≡ head → take 32 bytes ≡ head
    → length bytes ≡ len → 32 ≤ len → HoldsRange holds id 32 (drop 32 bytes) → bytes ≡ take len (bytes_at list id)
joined holds list id len head bytes told file front size above held =
    let whole = bytes_at list id in
    let here : drop 32 bytes ≡ file_range whole 32 (length (drop 32 bytes)) = subst (λ (h : Option (List NamedFile)). HoldsRange h id 32 (drop 32 bytes)) told held in
    let rest : length (drop 32 bytes) ≡ len - 32 = omega (arith, length-drop 32 bytes, size) in
    let split : len ≡ 32 + (len - 32) = omega arith in
    sym (take-append-drop 32 bytes)
    ∙ ap (λ (xs : List ℕ). xs ++ drop 32 bytes) (front ∙ sym file)
    ∙ ap (λ (xs : List ℕ). take 32 whole ++ xs) (here ∙ ap (λ (n : ℕ). take n (drop 32 whole)) rest)
    ∙ sym (take-add 32 (len - 32) whole)
    ∙ ap (λ (n : ℕ). take n whole) (sym split)

-- the judgement of the file
pub facts_not : (r : Result Loaded ℕ) (reason : ℕ) → No reason ≡ judged_of r → facts_in r ≡ Err (NotImage reason)
facts_not (Ok image) reason e = absurd cc
facts_not (Err other) reason e = let same : reason ≡ other = cc in ap (λ (x : ℕ). Err (NotImage x)) (sym same)

pub facts_is : (r : Result Loaded ℕ) (facts : Image) → Is facts ≡ judged_of r → facts_in r ≡ Ok facts
facts_is (Ok image) facts e = let same : facts ≡ image.facts = cc in ap (λ (x : Image). Ok x) (sym same)
facts_is (Err reason) facts e = absurd cc

-- what a header refuses is no image
not_told : (bytes : List ℕ) (r : Result Loaded ℕ) (reason : ℕ) → facts_in r ≡ Err (NotImage reason) → image_in bytes r ≡ Err (NotImage reason)
not_told bytes (Ok image) reason e = absurd cc
not_told bytes (Err other) reason e = let same : other ≡ reason = cc in ap (λ (x : ℕ). Err (NotImage x)) same

-- a header that isn't read, or refuses the file, decides
pub header_decides : (A C : Type 0) (view : A → Image) (whole : C → Image × List ℕ) (bytes : List ℕ) (r : Result Loaded ℕ) (unread : Unread)
    → IsOfFoundFile unread
    → Answers view (facts_in r) (Err unread) → Answers whole (image_in bytes r) (Err unread)
header_decides A C view whole bytes r Absent found answers = absurd found
header_decides A C view whole bytes r (NotImage reason) found answers = not_told bytes r reason answers
header_decides A C view whole bytes r FileFault found answers = tt
header_decides A C view whole bytes r NoMemory found answers = tt

pub header_fails : (A C : Type 0) {B : Type 0} (told : Result B Unread) (unread : Unread) (open_old open_new page_old page_new : ℕ) → page_new ≡ page_old
    → CountsFault {A = A} (Err unread) open_old open_new → FailsInOrder {A = C} told (Err unread) open_old open_new page_old page_new
header_fails A C told Absent open_old open_new page_old page_new same counts = tt
header_fails A C told (NotImage reason) open_old open_new page_old page_new same counts = tt
header_fails A C told FileFault open_old open_new page_old page_new same counts = inl (counts, same)
header_fails A C told NoMemory open_old open_new page_old page_new same counts = tt

pub header_counts : (A C : Type 0) (unread : Unread) (open_old open_new page_old page_new : ℕ) → page_new ≡ page_old
    → CountsFault {A = A} (Err unread) open_old open_new → CountsFaults {A = C} (Err unread) open_old open_new page_old page_new
header_counts A C Absent open_old open_new page_old page_new same counts = (counts, same)
header_counts A C (NotImage reason) open_old open_new page_old page_new same counts = (counts, same)
header_counts A C FileFault open_old open_new page_old page_new same counts = inl (counts, same)
header_counts A C NoMemory open_old open_new page_old page_new same counts = (counts, same)

pub judged_is : (bytes front : List ℕ) (r : Result Loaded ℕ) (facts : Image) → Is facts ≡ judged_of r → front ≡ take (file_length_of facts) bytes
    → image_in bytes r ≡ Ok (facts, front)
judged_is bytes front (Ok image) facts e same =
    let is : image.facts ≡ facts = let other : facts ≡ image.facts = cc in sym other in
    ap (λ (i : Image). Ok (i, take (file_length_of i) bytes)) is ∙ ap (λ (xs : List ℕ). Ok (facts, xs)) (sym same)
judged_is bytes front (Err reason) facts e same = absurd cc

-- a file that is judged to be an image is told as one
pub told_image : (bytes : List ℕ) (r : Result Loaded ℕ) (facts : Image) → Is facts ≡ judged_of r → IsTrue (is_ok (image_in bytes r))
told_image bytes (Ok image) facts e = refl
told_image bytes (Err reason) facts e = absurd cc

-- what is read after the header of an image fails in order
pub rest_fails : (A C : Type 0) {B : Type 0} (told : Result B Unread) (unread : Unread) (open_old open_new page_old page_between page_new : ℕ)
    → IsTrue (is_ok told) → open_new ≡ open_old → page_between ≡ page_old
    → CountsFault {A = A} (Err unread) page_between page_new → FailsInOrder {A = C} told (Err unread) open_old open_new page_old page_new
rest_fails A C told Absent open_old open_new page_old page_between page_new ok open_same page_same counts = tt
rest_fails A C told (NotImage reason) open_old open_new page_old page_between page_new ok open_same page_same counts = tt
rest_fails A C told FileFault open_old open_new page_old page_between page_new ok open_same page_same counts =
    inr ((open_same, subst (λ (n : ℕ). Rose n page_new) page_same counts), ok)
rest_fails A C told NoMemory open_old open_new page_old page_between page_new ok open_same page_same counts = tt

is_image : (r : Result Loaded ℕ) (facts : Image) → IsImageOf r facts → (image : Loaded) × (r ≡ Ok image) × (image.facts ≡ facts)
is_image (Ok image) facts is = (image, refl, is)
is_image (Err reason) facts is = absurd is

of_judged : (r : Result Loaded ℕ) (facts : Image) → Is facts ≡ judged_of r → IsImageOf r facts
of_judged (Ok image) facts e = let same : facts ≡ image.facts = cc in sym same
of_judged (Err reason) facts e = absurd cc

-- The bytes up to the end of text and data are an image with the facts that their header was judged to have, whatever
-- stands after them in the file.
pub image_of_front : (facts : Image) (len n : ℕ) (head bytes : List ℕ)
    → ((whole : List ℕ) → take 32 whole ≡ head → length whole ≡ len → Is facts ≡ judged_of (judged_image whole))
    → NeedsNoMore facts n → n ≤ len → 32 ≤ n → length bytes ≡ n → take 32 bytes ≡ head → IsImageOf (judged_image bytes) facts
image_of_front facts len n head bytes judged enough within above size front =
    let whole : List ℕ = bytes ++ replicate (len - n) 0 in
    let long : length whole ≡ len = omega (arith, length-append bytes (replicate (len - n) 0), length-replicate {A = ℕ} (len - n) 0, size, within) in
    let begins : take 32 whole ≡ head = take-append-le 32 bytes (replicate (len - n) 0) (omega (arith, size, above)) ∙ front in
    let is = is_image (judged_image whole) facts (of_judged (judged_image whole) facts (judged whole begins long)) in
    let back : take n whole ≡ bytes = ap (λ (k : ℕ). take k whole) (sym size) ∙ take-append_seam bytes (replicate (len - n) 0) in
    let same : judged_image bytes ≡ Ok is.0 = ap judged_image (sym back) ∙ enough whole is.0 is.1 is.2 in
    subst (λ (r : Result Loaded ℕ). IsImageOf r facts) (sym same) is.2

behind_mid : (a n : ℕ) (xs ys : List ℕ) → n ≡ length xs → a ≤ n → length ys ≡ n - a → drop a (put_mid a (n - a) xs ys) ≡ ys
behind_mid a n xs ys size within long =
    let whole : length (put_mid a (n - a) xs ys) ≤ n =
    omega (arith, same_len_mid a (n - a) xs ys (omega (arith, long, length-drop a xs, length-take-le (n - a) (drop a xs) (omega (arith, length-drop a xs, size)))), size) in
    sym (between_to_end (put_mid a (n - a) xs ys) a n whole) ∙ between-put_mid a (n - a) xs ys n (omega (arith, size, within)) long

-- what was read after the header stands after it
pub holds_behind : {T E : Type 0} (r : Result T E) (holds : Option (List NamedFile)) (id : ℕ) (xs ys : List ℕ) → 32 ≤ length xs → length ys ≡ length xs - 32
    → OnOk r (HoldsRange holds id 32 ys) → OnOk r (HoldsRange holds id 32 (drop 32 (put_mid 32 (length xs - 32) xs ys)))
holds_behind (Err e) holds id xs ys above long held = tt
holds_behind (Ok x) holds id xs ys above long held = subst (λ (zs : List ℕ). HoldsRange holds id 32 zs) (sym (behind_mid 32 (length xs) xs ys refl above long)) held

-- the header stands in front of the zeros
resized_head : {A E : Type 0} (r : Result A E) (v : A) (n : ℕ) (head zeros items : List ℕ) → r ≡ Ok v
    → items ≡ (if is_ok r then take n head ++ zeros else head) → length head ≡ 32 → 32 ≤ n → take 32 items ≡ head
resized_head (Ok x) v n head zeros items good same size above =
    ap (take 32) (same ∙ ap (λ (xs : List ℕ). xs ++ zeros) (take_all n head (omega (arith, size, above))))
    ∙ take-append-le 32 head zeros (omega (arith, size)) ∙ take_all 32 head (omega (arith, size))
resized_head (Err e) v n head zeros items good same size above = absurd cc

-- and in front of what was read after it
pub head_kept : {A E : Type 0} (r : Result A E) (v : A) (n m : ℕ) (head zeros items old new more : List ℕ) → r ≡ Ok v
    → items ≡ (if is_ok r then take n head ++ zeros else head) → length head ≡ 32 → 32 ≤ n
    → old ≡ items → take 32 new ≡ take 32 old → 32 ≤ m → 32 ≤ length new → take 32 (take m (new ++ more)) ≡ head
head_kept r v n m head zeros items old new more good same size above is kept within long =
    take-take 32 m (new ++ more) within ∙ take-append-le 32 new more long ∙ kept ∙ ap (take 32) is ∙ resized_head r v n head zeros items good same size above

-- the header that was read is the file's
pub header_of_file : (holds : Option (List NamedFile)) (list : List NamedFile) (id len : ℕ) (head : List ℕ) → holds ≡ Some list
    → len ≡ length (bytes_at list id)
    → length head ≡ min len 32 → HoldsRange holds id 0 head → take 32 (bytes_at list id) ≡ head
header_of_file holds list id len head told size count held = sym (front_of holds list id len 32 head told size count held)

-- and where it is whole, so many bytes of the file
pub front_of_header : (holds : Option (List NamedFile)) (list : List NamedFile) (id : ℕ) (head : List ℕ) → holds ≡ Some list → length head ≡ 32
    → HoldsRange holds id 0 head → take 32 (bytes_at list id) ≡ head
front_of_header holds list id head told size held =
    let here : head ≡ file_range (bytes_at list id) 0 (length head) = subst (λ (h : Option (List NamedFile)). HoldsRange h id 0 head) told held in
    ap (λ (n : ℕ). take n (bytes_at list id)) (sym size) ∙ sym here

-- text and data stand after the header
pub above_header : (image : Image) → 32 ≤ file_length_of image
above_header image = let above = text_offset_at_least (is_paged image.kind) in omega (arith, above)

pub at_least : (b : Bool) (n m k : ℕ) → n ≡ (if b then m else k) → 32 ≤ m → 32 ≤ k → 32 ≤ n
at_least true n m k is first second = omega (arith, is, first)
at_least false n m k is first second = omega (arith, is, second)
