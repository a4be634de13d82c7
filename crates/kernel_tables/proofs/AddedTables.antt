-- A space that comes: the lists of tables that have one space more.
use Rattle.std.proofs.Common.{◌≡◌, List, [], ◌∷◌, ◌++◌, refl, ap, ◌∙◌}
use Rattle.text_table.specs.Texts.{Text as SharedText}
use Rattle.space_map.specs.Space.{Places}
use Rattle.vm_facts.specs.declared.page.Page.{Page}
use Rattle.page_model.specs.Placement.{Placement, state_of}
use Rattle.kernel_laws.proofs.Spaces.{reshaped_owner}
use Rattle.kernel_tables.specs.declared.fill.DueFill.{DueFill}
use Rattle.kernel_tables.specs.declared.tables.Tables.{Tables}
use Rattle.kernel_tables.specs.Due.{AreWhole, DueOnce}
use Rattle.kernel_tables.specs.View.{Lists, placement_of}
use Rattle.kernel_tables.specs.Machine.{lists_of}
use Rattle.kernel_tables.specs.Known.{Known}
use Rattle.kernel_tables.specs.Added.{with_text_places, entered_texts, with_space}

-- what is due says nothing of frames
pub known_fills : (t : Lists) (fills : List DueFill) → Known t → AreWhole fills → DueOnce fills → Known (record t { fills = fills })
known_fills t fills known whole once =
    let same : (w : Page) → state_of (placement_of (record t { fills = fills })) w ≡ state_of (placement_of t) w = λ w. refl in
    let p : Placement = placement_of t in
    let q : Placement = placement_of (record t { fills = fills }) in
    record {
      core = known.core;
      owns = reshaped_owner p q known.owns (record { holds = refl; free = refl; transfers = refl; states = same; marks = λ w. refl });
      aside = λ i v z. let a = known.aside i v z in record { unsaved = a.unsaved; rests = a.rests };
      tied = let k = known.tied in record {
        few_frames = k.few_frames;
        few_images = k.few_images;
        sound = k.sound;
        small_texts = k.small_texts;
        few_pages = k.few_pages;
        shared = k.shared;
        alike = k.alike;
        filled = k.filled;
        counted = k.counted;
        marked = k.marked;
        whole = whole;
        once = once;
      };
      differ = known.differ;
      numbers = known.numbers;
    }

pub added_lists : (t u : Tables) (s : Places) (fills : List DueFill) → u.spaces ≡ t.spaces ++ with_text_places (lists_of t) s ∷ []
    → u.texts ≡ entered_texts t.texts s.image
    → u.fills.items ≡ fills → u ≡ record t { spaces = u.spaces; texts = u.texts; fills = u.fills; next_sid = u.next_sid }
    → lists_of u ≡ with_space (lists_of t) s fills
added_lists t u s fills spaces texts due rest =
    ap lists_of rest
    ∙ ap (λ (ss : List Places). record (lists_of t) { spaces = ss; texts = u.texts; fills = u.fills.items }) spaces
    ∙ ap (λ (ts : List SharedText). record (lists_of t) { spaces = t.spaces ++ with_text_places (lists_of t) s ∷ []; texts = ts; fills = u.fills.items }) texts
    ∙ ap (λ (ds : List DueFill). with_space (lists_of t) s ds) due
