-- The shape of a job: what the layout of its text depends on.
use Rattle.std.specs.Prelude.{ℕ, List, [], ◌∷◌, Option, Some, None, map, flat_map, slice_index}
use Rattle.elf64_records.specs.Sections.{sh_size}
use Rattle.object_set.specs.declared.places.SectionId.{SectionId}
use Rattle.object_set.specs.Files.{file_at}
use Rattle.object_set.specs.Sections.{align_of}
use Rattle.symbol_table.specs.Text.{text_sections}
use Rattle.stub_kinds.specs.declared.class.Class.{Class}
use Rattle.layout_rounds.specs.declared.shape.ShapeSection.{ShapeSection}
use Rattle.layout_rounds.specs.declared.shape.ShapeSite.{ShapeSite}
use Rattle.call_sites.specs.declared.site.CallSite.{CallSite}

-- a text section, where the files are of these TOC groups
abbrev pub section_shape : List (List ℕ) → List ℕ → SectionId → ShapeSection
section_shape files groups s = record {
  size = sh_size (file_at files s.file) s.section;
  align = align_of (file_at files s.file) s.section;
  toc = slice_index groups s.file;
}

-- all of them, in order
abbrev pub shape_sections : List (List ℕ) → List ℕ → List ShapeSection
shape_sections files groups = map (section_shape files groups) (text_sections files)

-- a call of a class
abbrev pub site_shape : CallSite → Class → ShapeSite
site_shape site class = record {
  section = site.section;
  offset = site.offset;
  class = class;
  to_section = site.to_section;
  to_offset = site.to_offset;
}

abbrev pub shape_by : CallSite → Option Class → List ShapeSite
shape_by site None = []
shape_by site (Some class) = site_shape site class ∷ []

-- those of the calls that go somewhere, in site order
abbrev pub shape_sites : List CallSite → List ShapeSite
shape_sites sites = flat_map (λ site. shape_by site site.class) sites

-- the calls that go somewhere
abbrev pub classed_by : CallSite → Option Class → List CallSite
classed_by site None = []
classed_by site (Some class) = site ∷ []

abbrev pub classed_sites : List CallSite → List CallSite
classed_sites sites = flat_map (λ site. classed_by site site.class) sites
