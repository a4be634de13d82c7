-- A machine that begins is the start of a run with no process.
use Rattle.std.proofs.Common.{◌≡◌, inl, inr, ℕ, zero, suc, ◌+◌, ◌-◌, ◌/◌, ◌<◌, ◌≤◌, Bool, false, List, [], ◌∷◌, ◌++◌, length, map, take, Result, replicate, get_or, Option, None, Ok, refl, sym, ap, ◌∙◌, subst, arith, length-append, Some}
use Rattle.std.specs.List.{range_with_len}
use Rattle.std.proofs.lemmas.Bool.{cases_eq}
use Rattle.std.proofs.lemmas.List.{get_or_append_left, length-replicate}
use Rattle.vm_facts.specs.declared.page.Page.{Page}
use Rattle.vm_facts.specs.declared.page.Page.TheVariants.{Text}
use Rattle.aout_image.specs.declared.Image.{Image}
use Rattle.aout_image.specs.Image.{text_pages_of}
use Rattle.frame_state.specs.Frame.{zero_frame}
use Rattle.core_map.specs.declared.slot.Slot.{Slot as Token}
use Rattle.core_map.specs.declared.slot.Slot.TheVariants as tokens
use Rattle.core_map.specs.Slots.{slot_at, slot_page as token_page}
use Rattle.core_map.specs.Fresh.{first_frames, fresh_slots}
use Rattle.text_table.specs.Texts.{unused_texts, unused_text, no_pages, text_numbered, is_saved}
use Rattle.swap_book.specs.Placing.{place_all}
use Rattle.page_model.specs.Frames.{count_up}
use Rattle.page_model.specs.Pages.{Slot, Zeros, TextPages}
use Rattle.page_model.specs.Placement.{unfilled, texts_from, start_placement}
use Rattle.page_model.specs.PageBytes.{zeros}
use Rattle.kernel_model.specs.Kernel.{Kernel}
use Rattle.kernel_model.specs.Sound.{lives}
use Rattle.page_model.specs.Ownership.{OneOwner}
use Rattle.table_steps.proofs.PageLawsStarts.{start_hands}
use Rattle.table_steps.proofs.KernelLawsPiecesStarts.{start_found}
use Rattle.table_steps.proofs.PageLawsDueChanges.{none_due}
use Rattle.table_steps.specs.TableViewShown.{state_shown}
use Rattle.table_steps.specs.Found.{cached_by, frame_holding}
use Rattle.table_steps.specs.View.{Lists, pages_in, text_slot, texts_of, page_by, bytes_by, page_held, bytes_held, placement_of, frames_of, transfer_shown, flown, starts_of}
use Rattle.table_steps.specs.New.{fresh_kernel, AreSound}
use Rattle.table_steps.specs.Machine.{Standing, KernelRuns, Stands, images_of, image_at, before_of, lists_of, kernel_by, processes_of, residents_of}
use Rattle.table_steps.specs.Alike.{AreRecords}
use Rattle.table_steps.specs.Sourced.{AreNames, AreSourced}
use Rattle.proc_table.specs.declared.process.Proc.{Proc as Record}
use Rattle.table_steps.proofs.Recorded.{no_records}
use Rattle.swap_book.specs.Holdings.{Holdings}
use Rattle.swap_book.specs.declared.Held.{Held}
use Rattle.vm_facts.specs.declared.params.Params.{Params}
use Rattle.vm_facts.specs.declared.entry.Entry.{Entry}
use Rattle.core_map.proofs.FreshLemmas.{no_page_fresh}
use Rattle.table_steps.specs.Space.{Places}
use Rattle.transfer_ring.specs.declared.transfer.Transfer.{Transfer as Flight}
use Rattle.table_steps.specs.Tables.{Tables}
use Rattle.table_steps.specs.Named.{Named as ImageNamed}
use Rattle.table_steps.specs.DueFill.{DueFill}
use Rattle.table_steps.proofs.Kernels.{kernel_ext}
use Rattle.table_steps.proofs.Finds.{holding_none}
use Rattle.table_steps.proofs.Shows.{pages_hit, pages_miss}
use Rattle.table_steps.proofs.Held.{placement_ext}

-- The tables' lists.
abbrev pub new_lists : List Image → ℕ → Lists
new_lists facts frames = record {
  slots = fresh_slots frames;
  free = first_frames frames;
  transfers = [];
  flown = [];
  spaces = [];
  texts = unused_texts;
  facts = facts;
  fills = [];
  residents = [];
  front = 1 + frames / 4;
  back = 1;
}

pub fresh_length : (n : ℕ) → length (fresh_slots n) ≡ suc n
fresh_length zero = refl
fresh_length (suc n) = length-append (fresh_slots n) (tokens.Free (zero_frame (suc n)) None ∷ []) ∙ omega (arith, fresh_length n)

fresh_frames : (n : ℕ) → length (fresh_slots n) - 1 ≡ n
fresh_frames n = omega (arith, fresh_length n)

at_last : (xs : List Token) (s : Token) → slot_at (xs ++ s ∷ []) (length xs) ≡ s
at_last [] s = refl
at_last (x ∷ xs) s = at_last xs s

fresh_at : (n g : ℕ) → 0 < g → g ≤ n → slot_at (fresh_slots n) g ≡ tokens.Free (zero_frame g) None
fresh_at zero g a b = absurd (omega arith)
fresh_at (suc n) g a b = elim (cases_eq g (suc n)) [
  | inl e ↦ ap (slot_at (fresh_slots n ++ tokens.Free (zero_frame (suc n)) None ∷ [])) (e ∙ sym (fresh_length n)) ∙ at_last (fresh_slots n) (tokens.Free (zero_frame (suc n)) None)
      ∙ ap (λ (k : ℕ). tokens.Free (zero_frame k) None) (sym e)
  | inr d ↦ get_or_append_left (fresh_slots n) (tokens.Free (zero_frame (suc n)) None ∷ []) tokens.Away g (omega (arith, fresh_length n)) ∙ fresh_at n g a (omega arith)
]

fresh_holding : (n : ℕ) (q : Page) → frame_holding (fresh_slots n) q ≡ None
fresh_holding n q = holding_none (fresh_slots n) q (λ f e. absurd (let k = sym (no_page_fresh n f) ∙ e in cc))

-- Lists that are the same all over.

constant : {A : Type 0} (h : ℕ → A) (x : A) (a n : ℕ) → ((k : ℕ) → a ≤ k → k < a + n → h k ≡ x) → map h (range_with_len a n) ≡ replicate n x
constant h x a zero e = refl
constant h x a (suc n) e = ap (λ y. y ∷ map h (range_with_len (a + 1) n)) (e a (omega arith) (omega arith)) ∙ ap (λ ys. x ∷ ys) (constant h x (a + 1) n (λ k l m. e k (omega arith) (omega arith)))

same_at : {A : Type 0} (n i : ℕ) (x : A) → get_or (replicate n x) i x ≡ x
same_at zero i x = refl
same_at (suc n) zero x = refl
same_at (suc n) (suc i) x = same_at n i x

none_saved : (i v : ℕ) → is_saved (text_numbered unused_texts i) v ≡ false
unfolding unused_texts no_pages
none_saved i v = ap (λ (t : Rattle.text_table.specs.Texts.Text). is_saved t v) (same_at 16 (i - 1) unused_text) ∙ same_at 2048 v false

none_shared : (i : ℕ) → (text_numbered unused_texts i).sharers ≡ 0
unfolding unused_texts
none_shared i = ap (λ (t : Rattle.text_table.specs.Texts.Text). t.sharers) (same_at 16 (i - 1) unused_text)

new_text_slot : (facts : List Image) (frames i v : ℕ) → text_slot (new_lists facts frames) i v ≡ unfilled Zeros
new_text_slot facts frames i v =
    ap (λ (b : Bool). let z : Slot = record { state = state_shown (fresh_slots frames) (cached_by (frame_holding (fresh_slots frames) (Text i v)) v); mark = b; filling = Zeros } in z) (none_saved i v)
    ∙ ap (λ (o : Option ℕ). let z : Slot = record { state = state_shown (fresh_slots frames) (cached_by o v); mark = false; filling = Zeros } in z) (fresh_holding frames (Text i v))

new_texts : (facts : List Image) (frames n : ℕ) (more : List Image) → texts_of (new_lists facts frames) n more ≡ texts_from n more
new_texts facts frames n [] = refl
new_texts facts frames n (x ∷ more) =
    ap (λ (ss : List Slot). record { image = n; text_pages = ss } ∷ texts_of (new_lists facts frames) (n + 1) more)
    (constant (text_slot (new_lists facts frames) n) (unfilled Zeros) 0 (text_pages_of x) (λ k l m. new_text_slot facts frames n k))
    ∙ ap (λ (ts : List TextPages). record { image = n; text_pages = replicate (text_pages_of x) (unfilled Zeros) } ∷ ts) (new_texts facts frames (n + 1) more)

count_snoc : (a n : ℕ) → count_up a (suc n) ≡ count_up a n ++ (a + n) ∷ []
count_snoc a zero = ap (λ (k : ℕ). k ∷ []) (let e : a ≡ a + 0 = omega arith in e)
count_snoc a (suc n) = ap (λ (ns : List ℕ). a ∷ ns) (count_snoc (a + 1) n ∙ ap (λ (k : ℕ). count_up (a + 1) n ++ k ∷ []) (let e : (a + 1) + n ≡ a + suc n = omega arith in e))

new_free : (n : ℕ) → first_frames n ≡ count_up 1 n
new_free zero = refl
new_free (suc n) = ap (λ (ns : List ℕ). ns ++ suc n ∷ []) (new_free n) ∙ ap (λ (k : ℕ). count_up 1 n ++ k ∷ []) (let e : suc n ≡ 1 + n = omega arith in e) ∙ sym (count_snoc 1 n)

pub new_place : (facts : List Image) (frames : ℕ) → placement_of (new_lists facts frames) ≡ start_placement facts [] frames
new_place facts frames = placement_ext (placement_of (new_lists facts frames)) (start_placement facts [] frames)
    refl
    (new_texts facts frames 1 facts)
    (ap (λ (n : ℕ). map (page_held (new_lists facts frames)) (range_with_len 1 n)) (fresh_frames frames)
    ∙ constant (page_held (new_lists facts frames)) None 1 frames (λ k l m. ap (λ (s : Token). page_by s None) (fresh_at frames k (omega arith) (omega arith))))
    (new_free frames)
    refl refl refl refl refl

pub new_frames : (facts : List Image) (frames : ℕ) → frames_of (new_lists facts frames) ≡ replicate frames zeros
unfolding zeros
new_frames facts frames =
    ap (λ (n : ℕ). map (bytes_held (new_lists facts frames)) (range_with_len 1 n)) (fresh_frames frames)
    ∙ constant (bytes_held (new_lists facts frames)) zeros 1 frames (λ k l m. ap (λ (s : Token). bytes_by s None) (fresh_at frames k (omega arith) (omega arith)))

-- What holds of it.

small_pages : (n image : ℕ) (facts : List Image) → AreSound facts → pages_in n image facts ≤ 2048
small_pages n image [] h = omega arith
small_pages n image (x ∷ more) h = elim (cases_eq n image) [
  | inl e ↦ subst (λ (k : ℕ). k ≤ 2048) (sym (pages_hit n image x more e)) (let t = h.0.text_fits in t)
  | inr d ↦ subst (λ (k : ℕ). k ≤ 2048) (sym (pages_miss n image x more d)) (small_pages (n + 1) image more h.1)
]

pub new_runs : (facts : List Image) (frames size : ℕ) → 0 < frames → frames ≤ 4096 → length facts ≤ 16 → AreSound facts
    → KernelRuns (fresh_kernel facts frames) (new_lists facts frames) size
unfolding place_all
new_runs facts frames size some few images sound = record {
  sound = record {
    owner = owner;
    tokens = length-replicate frames zeros ∙ sym (length-replicate {A = Option Page} frames None);
    hands = start_hands facts [] frames some;
    few_transfers = omega arith;
  };
  numbered = record { spaces_differ = tt; spaces_below = tt; pids_differ = tt; pids_below = tt; residents = λ pid e. absurd cc };
  due = none_due (start_placement facts [] frames) refl;
  tied = record {
    few_frames = omega (arith, fresh_length frames);
    few_images = images;
    few_pages = tt;
    sound = sound;
    small_texts = λ i. small_pages 1 i facts sound;
    shared = λ i v l m. absurd (omega arith);
    alike = tt;
    filled = tt;
    counted = λ i l m. none_shared i;
    marked = λ f token q mark e. absurd (let x : None ≡ Some q = sym (no_page_fresh frames f) ∙ ap token_page e in cc);
    whole = tt;
    once = tt;
  };
}
  where
    owner : OneOwner size (lives []) (start_placement facts [] frames) []
    owner = start_found size facts [] frames [] refl

-- The tables.

pub record NewTables (t : Tables) (facts : List Image) (frames : ℕ) : Type 0 where
  pub slots : t.core.slots ≡ fresh_slots frames
  pub free : t.core.free ≡ first_frames frames
  pub ring : t.ring ≡ []
  pub spaces : t.spaces ≡ []
  pub texts : t.texts ≡ unused_texts
  pub facts_are : map (λ (n : ImageNamed). n.facts) t.images.items ≡ facts
  pub fills : t.fills.items ≡ []
  pub holdings : t.book.holdings ≡ []
  pub front : t.front ≡ 1 + frames / 4
  pub back : t.back ≡ 1
  pub next_pid : t.next_pid ≡ 1
  pub next_sid : t.next_sid ≡ 1

pub new_lists_are : (t : Tables) (facts : List Image) (frames : ℕ) → NewTables t facts frames → lists_of t ≡ new_lists facts frames
new_lists_are t facts frames n =
    ap (λ (x : List Token). record (lists_of t) { slots = x }) n.slots
    ∙ ap (λ (x : List ℕ). record (lists_of t) { slots = fresh_slots frames; free = x }) n.free
    ∙ ap (λ (x : List Flight). record (lists_of t) { slots = fresh_slots frames; free = first_frames frames; transfers = map transfer_shown x; flown = flown x }) n.ring
    ∙ ap (λ (x : List Places). record (lists_of t) { slots = fresh_slots frames; free = first_frames frames; transfers = []; flown = []; spaces = x }) n.spaces
    ∙ ap (λ (x : List Rattle.text_table.specs.Texts.Text). record (new_lists facts frames) {
      texts = x;
      facts = (lists_of t).facts;
      fills = t.fills.items;
      residents = (lists_of t).residents;
      front = t.front;
      back = t.back;
    }) n.texts
    ∙ ap (λ (x : List Image). record (new_lists facts frames) { facts = x; fills = t.fills.items; residents = (lists_of t).residents; front = t.front; back = t.back }) n.facts_are
    ∙ ap (λ (x : List DueFill). record (new_lists facts frames) { fills = x; residents = (lists_of t).residents; front = t.front; back = t.back }) n.fills
    ∙ ap (λ (x : ℕ). record (new_lists facts frames) { residents = residents_of t.processes x; front = t.front; back = t.back }) n.next_pid
    ∙ ap (λ (x : ℕ). record (new_lists facts frames) { front = x; back = t.back }) n.front
    ∙ ap (λ (x : ℕ). record (new_lists facts frames) { back = x }) n.back

pub new_kernel_is : (t : Tables) (facts : List Image) (frames : ℕ) (journal : List Entry) → NewTables t facts frames → journal ≡ []
    → kernel_by t journal false ≡ fresh_kernel facts frames
new_kernel_is t facts frames journal n e =
    let l = new_lists_are t facts frames n in
    kernel_ext (kernel_by t journal false) (fresh_kernel facts frames)
    (ap placement_of l ∙ new_place facts frames)
    n.holdings
    (ap (processes_of t.processes) n.next_pid)
    n.next_pid
    n.next_sid
    (ap starts_of n.fills)
    (ap frames_of l ∙ new_frames facts frames)
    e
    refl

-- The machine.

pub new_before : (t : Tables) → t.book.holdings ≡ [] → before_of t ≡ []
new_before t e = ap (λ (hs : Holdings). take (length hs - t.found) hs) e ∙ none (0 - t.found)
  where
    none : (n : ℕ) → take {A = Held} n [] ≡ []
    none zero = refl
    none (suc n) = refl

pub new_stands : (t : Tables) (journal : List Entry) → t.book.holdings ≡ [] → t.ring ≡ [] → journal ≡ [] → t.book.size ≡ t.params.swap_blocks → t.processes ≡ []
    → AreNames (images_of t) → t.next_pid ≡ 1 → t.next_sid ≡ 1 → KernelRuns (kernel_by t journal false) (lists_of t) t.book.size → Stands t journal false
unfolding place_all
new_stands t journal hs ring none size processes named pid sid r =
    let same : t.book.holdings ≡ before_of t = hs ∙ sym (new_before t hs) in
    record {
      runs = subst (λ (x : Holdings). KernelRuns (record (kernel_by t journal false) { holdings = x }) (lists_of t) t.book.size) same r;
      ring = subst (AreSourced (images_of t) (image_at t) (before_of t) t.book.size) (sym ring) tt;
      within = subst (λ (j : List Entry). length j ≤ t.params.journal) (sym none) (omega arith);
      book = size;
      found = record { pieces = []; found = ap (λ (x : Holdings). let y : Result Holdings ℕ = Ok x in y) (sym same) };
      records = subst (λ (n : ℕ). AreRecords t.processes n) (sym pid) (subst (λ (ps : List Record). AreRecords ps 1) (sym processes) no_records);
      named = named;
      numbers = λ e. sid ∙ sym pid;
    }

pub new_standing : (t : Tables) (params : Params) (k : Kernel) → t.book.holdings ≡ [] → (now : Kernel) → now ≡ k
    → (let z : Standing = record { kernel = now; params = params; images = images_of t; before = before_of t; room = None } in z)
    ≡ record { kernel = k; params = params; images = images_of t; before = []; room = None }
new_standing t params k hs now e =
    ap (λ (x : Kernel). let z : Standing = record { kernel = x; params = params; images = images_of t; before = before_of t; room = None } in z) e
    ∙ ap (λ (x : Holdings). let z : Standing = record { kernel = k; params = params; images = images_of t; before = x; room = None } in z) (new_before t hs)
