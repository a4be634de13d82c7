-- What two finished runs of one image write, where its process has no child and is refused no swap space.
use Rattle.std.specs.Prelude.{◌≡◌, ◌⊎◌, ℕ, Bool, true, List, [], ◌∷◌, Option, Some}
use Rattle.vm_facts.specs.declared.entry.Entry.{Entry}
use Rattle.io_edge.specs.FileHolding.{NamedFile}
use Rattle.run_text.specs.Text.{text_of}
use Rattle.command_edge.specs.ImageWords.{image_names, first_images}
use Rattle.command_words.specs.Asked.{Request}
use Rattle.run_opening.specs.Images.{images_found}
use Rattle.flat_laws.specs.Others.{is_refusal}
use Rattle.flat_laws.specs.Visible.{visible_of, has_end, is_fork, HasNo, Begins}

-- These words start one process, and name the same images in both lists of files.
pub record StartAlike (words : List (List ℕ)) (files others : List NamedFile) : Type 0 where
  pub image : ℕ
  pub first : first_images (image_names words) words ≡ image ∷ []
  pub images : images_found others (image_names words) ≡ images_found files (image_names words)

-- no child comes, and no request of swap space is refused
pub record IsServedAlone (journal : List Entry) : Type 0 where
  pub childless : HasNo is_fork journal
  pub served : HasNo is_refusal journal

-- The texts of two journals were written. The outputs, the replies and the end that are seen in one of them are the beginning of those
-- in the other; where both end, they are the same.
pub record WroteAlike (traced also_traced : Bool) (written beside : Option (List ℕ)) : Type 0 where
  pub journal : List Entry
  pub other : List Entry
  pub wrote : written ≡ Some (text_of traced journal)
  pub also_wrote : beside ≡ Some (text_of also_traced other)
  pub agree : IsServedAlone journal → IsServedAlone other
      → Begins (visible_of journal) (visible_of other) ⊎ Begins (visible_of other) (visible_of journal)
  pub ends : IsServedAlone journal → IsServedAlone other
      → has_end (visible_of journal) ≡ true → Begins (visible_of other) (visible_of journal)
  pub same : IsServedAlone journal → IsServedAlone other
      → has_end (visible_of journal) ≡ true → has_end (visible_of other) ≡ true → visible_of journal ≡ visible_of other

-- Paging is not seen: two calls, each of which asks for a run and has status 0, wrote alike where they start alike. Their numbers and
-- their schedules may differ: frames, swap space, how many instructions may run, and what happens when.
abbrev pub PagingIsUnseen : Option Request → List NamedFile → ℕ → Option (List ℕ) → Option Request → List NamedFile → ℕ → Option (List ℕ) → Type 0
PagingIsUnseen asked files status written also_asked others also_status beside =
    (one two : Request) → asked ≡ Some one → also_asked ≡ Some two → two.words ≡ one.words
    → StartAlike one.words files others → status ≡ 0 → also_status ≡ 0 → WroteAlike one.traced two.traced written beside
