-- Once the pieces that a change wants have found their places, the holdings are as the change asks.
use Rattle.std.proofs.Common.{◌≡◌, ℕ, zero, suc, ◌+◌, ◌*◌, ◌%◌, Bool, true, false, cond, ◌||◌, List, [], ◌∷◌, ◌++◌, length, drop, map, Option, Some, None, Result, Ok, refl, sym, ap, ap₂, ◌∙◌, subst, arith}
use Rattle.std.specs.Prelude.{slice_get}
use Rattle.std.proofs.lemmas.List.Elements.{All-push}
use Rattle.std.proofs.lemmas.List.Quantifiers.{all_pairs_push}
use Rattle.vm_facts.specs.declared.page.Page.TheVariants.{Text}
use Rattle.vm_facts.specs.declared.regs.Regs.{Regs}
use Rattle.vm_facts.specs.declared.entry.Entry.{Entry}
use Rattle.swap_book.specs.Chunks.{pieces, text_pieces}
use Rattle.swap_book.specs.declared.Owner.{Owner}
use Rattle.swap_book.specs.declared.Owner.TheVariants as owners
use Rattle.swap_book.specs.declared.Held.{Held}
use Rattle.swap_book.specs.Owners.{same_owner, u_pieces, pieces_of}
use Rattle.swap_book.specs.Holdings.{Holdings, lengths, fit}
use Rattle.swap_book.specs.Placing.{Wanted, placed_at, and_then, place_all}
use Rattle.swap_book.specs.Book.{IsPiece, IsApart}
use Rattle.swap_book.proofs.OwnerLaws.{IsWhole, pieces_whole, same_owner_itself}
use Rattle.swap_book.proofs.BookLaws.{fit_even, fit_apart, fit_within}
use Rattle.swap_book.proofs.GrowthLaws.{wanted_as, Added, place_all_adds, lengths-append}
use Rattle.flat_state.specs.declared.change.Change.{Change}
use Rattle.page_model.specs.Pages.{numbered}
use Rattle.page_model.specs.Placement.{slots_of, sharers}
use Rattle.page_model.specs.Place.{data_count, stack_count}
use Rattle.page_model.specs.Ownership.{OwnsBlocks, OneOwner, text_pieces_while, u_blocks}
use Rattle.kernel_model.specs.Kernel.{Kernel, Proc}
use Rattle.kernel_model.specs.Sound.{Sound, lives}
use Rattle.kernel_model.specs.ChangeStep.{changing_of, change_if, change_step}
use Rattle.kernel_model.specs.Taken.{needed, wanted_lengths, AsksFor, MayChange}
use Rattle.kernel_laws.proofs.Pieces.GivenBack.{AreApart, both_pieces, both_while, both_u, while_of}
use Rattle.kernel_laws.proofs.Pieces.Sizes.{change_texts}
use Rattle.kernel_laws.proofs.Sound.Changes.{HasTaken, flat_sound}
use Rattle.aout_image.specs.declared.Image.{Image}

-- Pieces that are added are apart.

abbrev pub AllWhole : List ℕ → Type 0
AllWhole [] = Unit {0}
AllWhole (n ∷ ns) = IsWhole n × AllWhole ns

abbrev pub EachWhole : List Wanted → Type 0
EachWhole [] = Unit {0}
EachWhole (w ∷ ws) = IsWhole w.length × EachWhole ws

placed_apart : (size : ℕ) (hs : List Held) (owner : Owner) (n s : ℕ) → AreApart size hs → IsWhole n → fit size hs n ≡ Some s
    → AreApart size (hs ++ record { owner = owner; start = s; length = n } ∷ [])
placed_apart size hs owner n s a w found =
    let h = fit_within size hs n s found in
    record {
      pieces = All-push (IsPiece size) hs (record { owner = owner; start = s; length = n }) a.pieces (record {
        not_empty = w.some;
        even_start = fit_even size hs n s a.pieces w.some w.even found;
        even_length = w.even;
        within = h.within;
        one_unit = h.one_unit;
      });
      apart = all_pairs_push IsApart hs (record { owner = owner; start = s; length = n }) a.apart (λ k d lt. fit_apart size hs n s k d owner a.pieces w.some found lt);
    }

ok_is : (hs new : List Held) → ◌≡◌ {A = Result (List Held) ℕ} (Ok hs) (Ok new) → hs ≡ new
ok_is hs new e = cc

pub found_apart : (size : ℕ) (hs new : List Held) (ws : List Wanted) → AreApart size hs → EachWhole ws → place_all size hs ws ≡ Ok new → AreApart size new
unfolding place_all
found_apart size hs new [] a w e = subst (AreApart size) (ok_is hs new e) a
found_apart size hs new (x ∷ ws) a w e = go (fit size hs x.length) refl e (λ now b f. found_apart size now new ws b w.1 f)
  where
    go : (o : Option ℕ) → fit size hs x.length ≡ o → and_then (placed_at hs x o) (λ now. place_all size now ws) ≡ Ok new
        → ((now : List Held) → AreApart size now → place_all size now ws ≡ Ok new → AreApart size new) → AreApart size new
    go None f k rest = absurd cc
    go (Some start) f k rest = rest (hs ++ record { owner = x.owner; start = start; length = x.length } ∷ []) (placed_apart size hs x.owner x.length start a w.0 f) k

-- All pieces that are needed are of whole pages.

pub whole_from : (ns : List ℕ) → ((i n : ℕ) → slice_get ns i ≡ Some n → IsWhole n) → AllWhole ns
whole_from [] h = tt
whole_from (n ∷ ns) h = (h 0 n refl, whole_from ns (λ i m e. h (suc i) m e))

drop_whole : (k : ℕ) (ns : List ℕ) → AllWhole ns → AllWhole (drop k ns)
drop_whole zero [] w = w
drop_whole zero (n ∷ ns) w = w
drop_whole (suc k) [] w = w
drop_whole (suc k) (n ∷ ns) w = drop_whole k ns w.1

pub even_text : (n : ℕ) → (2 * n) % 2 ≡ 0
even_text n = omega arith

needed_whole : (k : Kernel) (owner : Owner) → AllWhole (needed k owner)
needed_whole k (owners.Data sid) = whole_from (pieces (2 * data_count k.place sid)) (λ i n e. pieces_whole (owners.Data sid) (2 * data_count k.place sid) i n tt e)
needed_whole k (owners.Stack sid) = whole_from (pieces (2 * stack_count k.place sid)) (λ i n e. pieces_whole (owners.Stack sid) (2 * stack_count k.place sid) i n tt e)
needed_whole k (owners.U pid) = whole_from (u_pieces (u_blocks (lives k.processes pid))) (λ i n e. pieces_whole (owners.U pid) (u_blocks (lives k.processes pid)) i n tt e)
needed_whole k (owners.Text image) = go (sharers k.place image)
  where
    blocks : ℕ
    blocks = 2 * length (slots_of k.place (Text image 0))

    go : (n : ℕ) → AllWhole (text_pieces_while n blocks)
    go zero = tt
    go (suc n) = whole_from (text_pieces blocks) (λ i m e. pieces_whole (owners.Text image) blocks i m (even_text (length (slots_of k.place (Text image 0)))) e)

wanted_head : (w : Wanted) (ws : List Wanted) → AllWhole (wanted_lengths w.owner (w ∷ ws)) → IsWhole w.length
wanted_head w ws h = go (same_owner w.owner w.owner) (same_owner_itself w.owner) h
  where
    go : (b : Bool) → b ≡ true → AllWhole (cond b (w.length ∷ wanted_lengths w.owner ws) (wanted_lengths w.owner ws)) → IsWhole w.length
    go true e k = k.0
    go false e k = absurd cc

wanted_tail : (w : Wanted) (ws : List Wanted) (owner : Owner) → AllWhole (wanted_lengths owner (w ∷ ws)) → AllWhole (wanted_lengths owner ws)
wanted_tail w ws owner h = go (same_owner w.owner owner) h
  where
    go : (b : Bool) → AllWhole (cond b (w.length ∷ wanted_lengths owner ws) (wanted_lengths owner ws)) → AllWhole (wanted_lengths owner ws)
    go true k = k.1
    go false k = k

pub wanted_whole : (ws : List Wanted) → ((owner : Owner) → AllWhole (wanted_lengths owner ws)) → EachWhole ws
wanted_whole [] h = tt
wanted_whole (w ∷ ws) h = (wanted_head w ws (h w.owner), wanted_whole ws (λ owner. wanted_tail w ws owner (h owner)))

-- How much each owner has then.

added_lengths : (owner : Owner) (gs : List Held) → lengths owner gs ≡ wanted_lengths owner (map wanted_as gs)
added_lengths owner [] = refl
added_lengths owner (g ∷ gs) = go (same_owner g.owner owner) (added_lengths owner gs)
  where
    go : (b : Bool) → lengths owner gs ≡ wanted_lengths owner (map wanted_as gs)
        → map (λ (h : Held). h.length) (cond b (g ∷ Rattle.swap_book.specs.Holdings.of_owner owner gs) (Rattle.swap_book.specs.Holdings.of_owner owner gs))
        ≡ cond b (g.length ∷ wanted_lengths owner (map wanted_as gs)) (wanted_lengths owner (map wanted_as gs))
    go true ih = ap (λ (ns : List ℕ). g.length ∷ ns) ih
    go false ih = ih

pub found_lengths : (size : ℕ) (hs new : List Held) (ws : List Wanted) (owner : Owner) → place_all size hs ws ≡ Ok new
    → lengths owner new ≡ lengths owner hs ++ wanted_lengths owner ws
found_lengths size hs new ws owner e =
    let a : Added hs new ws = place_all_adds size hs new ws e in
    ap (lengths owner) a.is ∙ lengths-append owner hs a.pieces ∙ ap (λ (ns : List ℕ). lengths owner hs ++ ns) (added_lengths owner a.pieces ∙ ap (wanted_lengths owner) a.wanted)

held_before : (size : ℕ) (k : Kernel) (hs : Holdings) (owner : Owner) → OwnsBlocks size (lives k.processes) k.place hs → lengths owner hs ≡ needed k owner
held_before size k hs (owners.Data sid) o = o.data_held sid
held_before size k hs (owners.Stack sid) o = o.stack_held sid
held_before size k hs (owners.U pid) o = o.u_held pid
held_before size k hs (owners.Text image) o = o.text_held image

abbrev SameTexts : Kernel → Kernel → Type 0
SameTexts k next = (i : ℕ) → length (slots_of next.place (Text i 0)) ≡ length (slots_of k.place (Text i 0))

both_needed : (k next : Kernel) (owner : Owner) → SameTexts k next
    → (blocks : ℕ) × (needed k owner ++ drop (length (needed k owner)) (needed next owner) ≡ pieces_of owner blocks)
both_needed k next (owners.Data sid) t = (2 * Rattle.std.specs.Prelude.max (data_count k.place sid) (data_count next.place sid), both_pieces (data_count k.place sid) (data_count next.place sid))
both_needed k next (owners.Stack sid) t = (2 * Rattle.std.specs.Prelude.max (stack_count k.place sid) (stack_count next.place sid), both_pieces (stack_count k.place sid) (stack_count next.place sid))
both_needed k next (owners.U pid) t = (u_blocks (lives k.processes pid || lives next.processes pid), both_u (lives k.processes pid) (lives next.processes pid))
both_needed k next (owners.Text image) t =
    let w = while_of (sharers k.place image + sharers next.place image) (2 * length (slots_of k.place (Text image 0))) in (
      w.0,
      both_while (sharers k.place image) (sharers next.place image) (2 * length (slots_of k.place (Text image 0))) (2
          * length (slots_of next.place (Text image 0))) (ap (λ (n : ℕ). 2 * n) (t image)) ∙ w.1,
    )

pub found_taken : (size : ℕ) (k next : Kernel) (before : Holdings) (ws : List Wanted) → OwnsBlocks size (lives k.processes) k.place before
    → SameTexts k next → place_all size before ws ≡ Ok k.holdings
    → AsksFor k next ws → HasTaken size k next
found_taken size k next before ws o t e a =
    let taken : (owner : Owner) → lengths owner k.holdings ≡ needed k owner ++ drop (length (needed k owner)) (needed next owner) = λ owner.
    found_lengths size before k.holdings ws owner e ∙ ap₂ (λ (xs ys : List ℕ). xs ++ ys) (held_before size k before owner o) (a owner) in
    let r : AreApart size k.holdings = found_apart size before k.holdings ws (record { pieces = o.book.pieces; apart = o.book.apart })
    (wanted_whole ws (λ owner. subst AllWhole (sym (a owner)) (drop_whole (length (needed k owner)) (needed next owner) (needed_whole next owner)))) e in
    record {
      book = record { pieces = r.pieces; apart = r.apart; owners = λ owner. let b = both_needed k next owner t in (b.0, taken owner ∙ b.1) };
      taken = taken;
    }

-- A change keeps every text as long as it was.
step_texts : (images : List Image) (k : Kernel) (pid : ℕ) (regs : Regs) (e : Entry) (change : Change) → SameTexts k (change_step images k pid regs e change)
step_texts images k pid regs e change i = go (numbered (λ (p : Proc). p.pid) pid k.processes)
  where
    go : (o : Option Proc) → length (slots_of (change_if images k regs e change o).place (Text i 0)) ≡ length (slots_of k.place (Text i 0))
    go None = refl
    go (Some p) = change_texts (changing_of images k p e) k.place change i

-- A machine whose holdings have got the pieces that a change wants is sound after it.
pub found_sound : (size : ℕ) (images : List Image) (k : Kernel) (before : Holdings) (ws : List Wanted) (pid : ℕ) (regs : Regs) (e : Entry) (change : Change)
    → Sound size (record k { holdings = before }) → place_all size before ws ≡ Ok k.holdings → AsksFor k (change_step images k pid regs e change) ws
    → MayChange images k pid change → Sound size (change_step images k pid regs e change)
found_sound size images k before ws pid regs e change s f a m =
    let o : OneOwner size (lives k.processes) k.place before = s.owner in
    flat_sound size images k before pid regs e change s (found_taken size k (change_step images k pid regs e change) before ws o.blocks (step_texts images k pid regs e change) f a) m
