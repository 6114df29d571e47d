-- Defines the bytes of a segment of an explanation.
-- Rules of this product: an explanation is a list of segments, which are written one after the other.
use Rattle.std.specs.Prelude.{ℕ, Bool, if◌then◌else◌, List, decimal}
use Rattle.explanations.specs.declared.segments.Segment.{Segment}
use Rattle.explanations.specs.declared.segments.Segment.TheVariants.{Text, Number, Shown, Blanks, Repeated}
use Rattle.explanations.specs.declared.segments.Segment.TheVariants.{Index, Framed}
use Rattle.explanations.specs.Excerpt.{shown_char, blank_char, shown, blanks, repeated}
use Rattle.explanations.specs.ExplanationText.{framed, index_words}

-- `drawn_char are_blank c` is the character that is written for `c`: a blank if `are_blank`, else `c` as it is shown.
abbrev pub drawn_char : Bool → ℕ → ℕ
drawn_char are_blank c = if are_blank then blank_char c else shown_char c

-- `bytes_of segment` are the bytes of `segment`.
abbrev pub bytes_of : Segment → List ℕ
bytes_of (Text text) = text.now
bytes_of (Number number) = decimal number
bytes_of (Shown text skipped count) = shown text.now skipped count
bytes_of (Blanks text skipped count) = blanks text.now skipped count
bytes_of (Repeated c count) = repeated c count
bytes_of (Index index) = index_words index
bytes_of (Framed before text most after) = framed before.now text.now most after.now
