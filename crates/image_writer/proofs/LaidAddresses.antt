-- The addresses of a plan are those that a rewriting of loads asks for.
use Rattle.std.proofs.Common.{ℕ, zero, suc, ◌≡◌, ◌<◌, ◌≤◌, ◌+◌, inl, inr, List, [], ◌∷◌, length, length-append, map, slice_index, ap, sym, ◌∙◌, subst, arith}
use Rattle.std.specs.List.{All, range_with_len}
use Rattle.std.proofs.lemmas.Bool.{cases_lt}
use Rattle.std.proofs.lemmas.List.{length-map, get_or_past}
use Rattle.std.proofs.lemmas.List.FromFn.{length-map-range_with_len}
use Rattle.std.proofs.lemmas.List.Elements.{All-nil, All-cons, All-append}
use Rattle.elf64_records.specs.FileHeader.{e_shnum}
use Rattle.object_set.specs.Files.{file_at}
use Rattle.object_set.specs.Walks.{items_in, items_before, all_items, section_walk}
use Rattle.symbol_table.specs.Candidates.{all_commons}
use Rattle.symbol_table.specs.declared.target.Piece.TheVariants.{Section, Common}
use Rattle.toc_groups.specs.Data.{address_walk, section_address, common_address, piece_addresses}
use Rattle.toc_groups.specs.PlacedData.{IsPlacedData}
use Rattle.toc_groups.specs.Plans.{LaidData, IsPlan}
use Rattle.toc_groups.specs.Sections.{commons_of, common_extent}
use Rattle.toc_groups.proofs.ReadPlaces.{address_count}
use Rattle.toc_rewrite.specs.Laid.{laid_files, HasAddresses}
use Rattle.image_writer.proofs.Bases.{bases_count, bases_low}

-- an address below that of text
abbrev IsLow : ℕ → Type 0
IsLow n = n < 0x60000000

low_at : (xs : List ℕ) → All IsLow xs → (k : ℕ) → slice_index xs k < 0x60000000
low_at xs all k =
    elim (cases_lt k (length xs)) [
      | inl within ↦ all k 0 within
      | inr past ↦ (let none : slice_index xs k ≡ 0 = get_or_past xs k 0 (omega (arith, past)) in omega (arith, none))
    ]

module _ (files : List (List ℕ)) (span : ℕ) (placed : IsPlacedData files span) where
  sections_low : (file n : ℕ) → file < length files → n ≤ e_shnum (file_at files file) →
      All IsLow (items_in (address_walk files span) file (file_at files file) n)
  sections_low file zero within most = All-nil IsLow
  sections_low file (suc n) within most =
      All-append IsLow (items_in (address_walk files span) file (file_at files file) n)
      (section_address files span file (file_at files file) n ∷ []) (sections_low file n within (omega arith))
      (All-cons IsLow (section_address files span file (file_at files file) n) []
      (placed.pieces (Section file n) (within, omega arith)) (All-nil IsLow))

  files_low : (n : ℕ) → n ≤ length files → All IsLow (items_before (address_walk files span) files n)
  files_low zero most = All-nil IsLow
  files_low (suc n) most =
      All-append IsLow (items_before (address_walk files span) files n)
      (items_in (address_walk files span) n (file_at files n) (e_shnum (file_at files n))) (files_low n (omega arith))
      (sections_low n (e_shnum (file_at files n)) (omega arith) (omega arith))

  commons_low : (first n : ℕ) → first + n ≤ length (commons_of files) → All IsLow (map (common_address files span) (range_with_len first n))
  commons_low first zero most = All-nil IsLow
  commons_low first (suc n) most =
      All-cons IsLow (common_address files span first) (map (common_address files span) (range_with_len (first + 1) n))
      (placed.pieces (Common first) (omega arith)) (commons_low (first + 1) n (omega arith))

  pieces_low : All IsLow (piece_addresses files span)
  pieces_low =
      All-append IsLow (all_items (address_walk files span) files)
      (map (common_address files span) (range_with_len 0 (length (commons_of files)))) (files_low (length files) (omega arith))
      (commons_low 0 (length (commons_of files)) (omega arith))

  pieces_count : length (piece_addresses files span) ≡ length (all_items section_walk files) + length (all_commons files)
  pieces_count =
      let sections = address_count files span (length files) in
      let commons = length-map-range_with_len (common_address files span) 0 (length (commons_of files)) in
      let both = length-append (all_items (address_walk files span) files)
      (map (common_address files span) (range_with_len 0 (length (commons_of files)))) in
      let each = length-map (all_commons files) common_extent in
      omega (arith, sections, commons, both, each)

  pub has_addresses : (plan : LaidData) → IsPlan files span plan → HasAddresses (laid_files files plan.bases plan.pieces)
  has_addresses plan is =
      let own : IsPlan files plan.span plan = subst (λ (s : ℕ). IsPlan files s plan) (sym is.span_is) is in
      let there : IsPlacedData files plan.span = subst (IsPlacedData files) (sym is.span_is) placed in
      record {
        bases = bases_count files plan own;
        pieces = ap (λ (l : List ℕ). length l) is.pieces ∙ pieces_count;
        low_bases = bases_low files plan own there;
        low_pieces = λ k. subst (λ (l : List ℕ). slice_index l k < 0x60000000) (sym is.pieces)
            (low_at (piece_addresses files span) pieces_low k);
      }
