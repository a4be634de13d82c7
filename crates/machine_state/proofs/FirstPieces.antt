-- The pieces that a first process wants.
use Rattle.std.proofs.Common.{◌≡◌, ℕ, zero, suc, ◌*◌, ◌<◌, Bool, true, Some, Result, Ok, Err, List, [], ◌∷◌, ◌++◌, length, drop, refl, sym, ap, ◌∙◌, append_assoc, arith}
use Rattle.std.specs.Prelude.{slice_index_or, is_ok, IfOk, OnOk}
use Rattle.std.proofs.lemmas.List.{append-nil, length-map}
use Rattle.std.proofs.Math.Nat.{mul-mod_right}
use Rattle.vm_facts.specs.declared.stop.NoMemory.{NoMemory}
use Rattle.vm_facts.specs.declared.page.Page.TheVariants.{Text}
use Rattle.aout_image.specs.declared.Image.{Image}
use Rattle.aout_image.specs.Image.{text_pages_of, image_data_pages}
use Rattle.swap_dmap.specs.Chunks.{pieces, text_pieces}
use Rattle.swap_book.specs.declared.Owner.{Owner}
use Rattle.swap_book.specs.declared.Owner.TheVariants as owners
use Rattle.swap_book.specs.declared.Held.{Held}
use Rattle.swap_book.specs.Owners.{pieces_of, u_pieces}
use Rattle.swap_book.specs.Holdings.{Holdings, of_owner, lengths}
use Rattle.swap_book.specs.Placing.{Wanted, wanted, more_pieces, place_all}
use Rattle.swap_book.specs.Book.{Book, grown_book}
use Rattle.text_table.specs.Texts.{text_numbered}
use Rattle.page_model.specs.Placement.{Placement, slots_of, sharers}
use Rattle.page_model.specs.Place.{facts_numbered}
use Rattle.kernel_model.specs.Asks.{text_asked, begin_asks}
use Rattle.swap_wants.specs.declared.Want.{Want}
use Rattle.table_steps.specs.Named.{Named}
use Rattle.table_steps.specs.Tables.{Tables}
use Rattle.table_steps.specs.Machine.{lists_of}
use Rattle.table_steps.specs.Alike.{facts_in}
use Rattle.table_steps.specs.View.{Lists, placement_of}
use Rattle.swap_wants.specs.Wants.{CanAsk, wanted_of, fits_for, book_asked}
use Rattle.machine_state.specs.Beginning.{HoldsNone, MayLookFirst, LookedFirst}
use Rattle.table_steps.proofs.Shows.{texts_shown, text_length}
use Rattle.table_steps.proofs.AddedTied.{facts_pages}

abbrev pub want : Owner → ℕ → Want
want owner blocks = record { owner = owner; blocks = blocks }

-- what a first process wants beside the text
abbrev pub own_wants : ℕ → Image → List Want
own_wants pid facts = want (owners.Data pid) (2 * image_data_pages facts) ∷ want (owners.Stack pid) 2 ∷ want (owners.U pid) 2 ∷ []

-- and with it
abbrev pub all_wants : ℕ → ℕ → Image → List Want
all_wants pid image facts = want (owners.Text image) (2 * text_pages_of facts) ∷ own_wants pid facts

-- an owner that holds nothing wants all its pieces
pub none_held : (hs : Holdings) (owner : Owner) → lengths owner hs ≡ [] → length (of_owner owner hs) ≡ 0
none_held hs owner e = sym (length-map (of_owner owner hs) (λ (h : Held). h.length)) ∙ ap (λ (ns : List ℕ). length ns) e

pub all_more : (hs : Holdings) (owner : Owner) (blocks : ℕ) → lengths owner hs ≡ [] → more_pieces hs owner blocks ≡ wanted owner (pieces_of owner blocks)
all_more hs owner blocks e = ap (λ (k : ℕ). wanted owner (drop k (pieces_of owner blocks))) (none_held hs owner e)

own_asks : (p : Placement) (hs : Holdings) (pid image : ℕ) (facts : Image) → HoldsNone p hs pid image
    → wanted_of hs (own_wants pid facts)
    ≡ wanted (owners.Data pid) (pieces (2 * image_data_pages facts)) ++ (wanted (owners.Stack pid) (pieces 2) ++ wanted (owners.U pid) (u_pieces 2))
own_asks p hs pid image facts h =
    let d : List Wanted = wanted (owners.Data pid) (pieces (2 * image_data_pages facts)) in
    let s : List Wanted = wanted (owners.Stack pid) (pieces 2) in
    ap (λ (l : List Wanted). l ++ (more_pieces hs (owners.Stack pid) 2 ++ (more_pieces hs (owners.U pid) 2 ++ []))) (all_more hs (owners.Data pid) (2 * image_data_pages facts) h.of_data)
    ∙ ap (λ (l : List Wanted). d ++ (l ++ (more_pieces hs (owners.U pid) 2 ++ []))) (all_more hs (owners.Stack pid) 2 h.of_stack)
    ∙ ap (λ (l : List Wanted). d ++ (s ++ l)) (append-nil (more_pieces hs (owners.U pid) 2) ∙ all_more hs (owners.U pid) 2 h.of_u)

in_three : (t d s u : List Wanted) → t ++ (d ++ (s ++ u)) ≡ (t ++ (d ++ s)) ++ u
in_three t d s u = sym (append_assoc t (d ++ s) u ∙ ap (λ (l : List Wanted). t ++ l) (append_assoc d s u))

-- the pieces of a first process, by how many share its text
abbrev asks_by : Placement → ℕ → ℕ → ℕ → Image → List Wanted
asks_by p n pid image facts =
    (text_asked n image (2 * length (slots_of p (Text image 0))) ++ (wanted (owners.Data pid) (pieces (2 * image_data_pages facts)) ++ wanted (owners.Stack pid) (pieces 2)))
    ++ wanted (owners.U pid) (u_pieces 2)

-- where a space shares the text
pub asks_shared : (p : Placement) (hs : Holdings) (pid image : ℕ) (facts : Image) → HoldsNone p hs pid image → 0 < sharers p image
    → wanted_of hs (own_wants pid facts) ≡ begin_asks p pid image facts
asks_shared p hs pid image facts h l = own_asks p hs pid image facts h ∙ go (sharers p image) refl l
  where
    d : List Wanted
    d = wanted (owners.Data pid) (pieces (2 * image_data_pages facts))

    s : List Wanted
    s = wanted (owners.Stack pid) (pieces 2)

    go : (n : ℕ) → sharers p image ≡ n → 0 < n → d ++ (s ++ wanted (owners.U pid) (u_pieces 2)) ≡ asks_by p (sharers p image) pid image facts
    go zero e m = absurd (omega arith)
    go (suc n) e m = in_three [] d s (wanted (owners.U pid) (u_pieces 2)) ∙ ap (λ (k : ℕ). asks_by p k pid image facts) (sym e)

-- and where none does
pub asks_first : (p : Placement) (hs : Holdings) (pid image : ℕ) (facts : Image) → HoldsNone p hs pid image → sharers p image ≡ 0
    → 2 * text_pages_of facts ≡ 2 * length (slots_of p (Text image 0)) → wanted_of hs (all_wants pid image facts) ≡ begin_asks p pid image facts
asks_first p hs pid image facts h none size =
    let t : List Wanted = wanted (owners.Text image) (text_pieces (2 * length (slots_of p (Text image 0)))) in
    ap (λ (l : List Wanted). l ++ wanted_of hs (own_wants pid facts))
    (all_more hs (owners.Text image) (2 * text_pages_of facts) (h.of_text none) ∙ ap (λ (n : ℕ). wanted (owners.Text image) (text_pieces n)) size)
    ∙ ap (λ (l : List Wanted). t ++ l) (own_asks p hs pid image facts h)
    ∙ in_three t (wanted (owners.Data pid) (pieces (2 * image_data_pages facts))) (wanted (owners.Stack pid) (pieces 2)) (wanted (owners.U pid) (u_pieces 2))
    ∙ ap (λ (k : ℕ). asks_by p k pid image facts) (sym none)

-- a text has the pages that its image's header says
pub text_size : (t : Lists) (image : ℕ) (facts : Image) → facts_in 1 image t.facts ≡ Some facts
    → 2 * text_pages_of facts ≡ 2 * length (slots_of (placement_of t) (Text image 0))
text_size t image facts e =
    let a = ap length (texts_shown t 1 image t.facts) ∙ text_length t image _ in
    let b = facts_pages 1 image t.facts facts e in
    omega (arith, a, b)

-- They may be asked for.

pub can_own : (hs : Holdings) (pid : ℕ) (facts : Image) → CanAsk hs (own_wants pid facts)
can_own hs pid facts = record {
  differ = (((λ e. cc), ((λ e. cc), tt)), (((λ e. cc), tt), (tt, tt)));
  each = (tt, (tt, (refl, tt)));
}

pub nil_of : {A : Type 0} (xs : List A) → length xs ≡ 0 → xs ≡ []
nil_of [] e = refl
nil_of (x ∷ xs) e = absurd (omega (arith, e))

pub can_all : (p : Placement) (hs : Holdings) (pid image : ℕ) (facts : Image) → HoldsNone p hs pid image → sharers p image ≡ 0
    → CanAsk hs (all_wants pid image facts)
can_all p hs pid image facts h none = record {
  differ = (((λ e. cc), ((λ e. cc), ((λ e. cc), tt))), (can_own hs pid facts).differ);
  each = ((mul-mod_right 2 (text_pages_of facts), nil_of (of_owner (owners.Text image) hs) (none_held hs (owners.Text image) (h.of_text none))), (can_own hs pid facts).each);
}

-- The calls.

abbrev pub no_want : Want
no_want = want (owners.Data 0) 0

abbrev three_wants : ℕ → ℕ → Image → List Want
three_wants sid image facts = want (owners.Text image) (2 * text_pages_of facts) ∷ want (owners.Data sid) (2 * image_data_pages facts) ∷ want (owners.Stack sid) 2 ∷ []

-- what is asked for, of what an image wants
abbrev pub all_asked : List Want → ℕ → List Want
all_asked rs pid = slice_index_or rs 0 no_want ∷ slice_index_or rs 1 no_want ∷ slice_index_or rs 2 no_want ∷ want (owners.U pid) 2 ∷ []

abbrev pub own_asked : List Want → ℕ → List Want
own_asked rs pid = slice_index_or rs 1 no_want ∷ slice_index_or rs 2 no_want ∷ want (owners.U pid) 2 ∷ []

pub wants_all : (rs : List Want) (pid sid image : ℕ) (facts : Image) → rs ≡ three_wants sid image facts → pid ≡ sid
    → all_asked rs pid ≡ all_wants pid image facts
wants_all rs pid sid image facts e same =
    ap (λ (xs : List Want). all_asked xs pid) e
    ∙ ap (λ (n : ℕ). want (owners.Text image) (2 * text_pages_of facts) ∷ want (owners.Data n) (2 * image_data_pages facts) ∷ want (owners.Stack n) 2 ∷ want (owners.U pid) 2 ∷ []) (sym same)

pub wants_own : (rs : List Want) (pid sid image : ℕ) (facts : Image) → rs ≡ three_wants sid image facts → pid ≡ sid
    → own_asked rs pid ≡ own_wants pid facts
wants_own rs pid sid image facts e same =
    ap (λ (xs : List Want). own_asked xs pid) e
    ∙ ap (λ (n : ℕ). want (owners.Data n) (2 * image_data_pages facts) ∷ want (owners.Stack n) 2 ∷ want (owners.U pid) 2 ∷ []) (sym same)

-- what the table of texts counts
pub shares : (t : Tables) (pid image : ℕ) → MayLookFirst t pid image → (text_numbered t.texts image).sharers ≡ sharers (placement_of (lists_of t)) image
shares t pid image m =
    let e = length-map t.images.items (λ (n : Named). n.facts) in
    let few = m.tied.few_images in
    let l = m.within in
    m.tied.counted image m.above (omega arith)

pub looked : (t : Tables) (now : Book) (pid image : ℕ) (facts : Image) (ws : List Want) (r : Result Bool NoMemory)
    → facts_numbered (lists_of t).facts image ≡ Some facts
    → wanted_of t.book.holdings ws ≡ begin_asks (placement_of (lists_of t)) pid image facts
    → IfOk r (λ fits. fits ≡ fits_for t.book.size t.book.holdings ws) → OnOk r (now ≡ book_asked true t.book ws)
    → IfOk r (λ fits. LookedFirst t (record t { book = now }) pid image fits)
looked t now pid image facts ws (Err e) is wants answer book = tt
looked t now pid image facts ws (Ok fits) is wants answer book = record {
  facts = facts;
  is = is;
  answer = answer ∙ ap (λ (xs : List Wanted). is_ok (place_all t.book.size t.book.holdings xs)) wants;
  book = ap (λ (b : Book). record t { book = b }) (book ∙ ap (λ (xs : List Wanted). grown_book t.book (place_all t.book.size t.book.holdings xs)) wants);
}
