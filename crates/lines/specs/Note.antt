-- Note lines.
use Rattle.std.specs.Prelude.{ℕ, ◌+◌, ◌-◌, ◌*◌, ◌/◌, ◌%◌, Bool, true, cond, ◌&&◌, List, [], ◌∷◌, ◌++◌, length, replicate, ◌==◌, nat_le, slice_index}
use Rattle.lines.specs.declared.note.Note.{Note}
use Rattle.lines.specs.Line.{Form}

-- the four bytes of a word, the lowest first
abbrev pub word_bytes : ℕ → List ℕ
word_bytes w = w % 256 ∷ w / 256 % 256 ∷ w / 65536 % 256 ∷ w / 16777216 % 256 ∷ []

-- the sixteen bytes of a note
abbrev pub note_bytes : Note → List ℕ
note_bytes n = word_bytes n.first ++ word_bytes n.second ++ word_bytes n.third ++ word_bytes n.fourth

-- a text of at most sixteen bytes, with zeros behind it
abbrev pub padded : List ℕ → List ℕ
padded text = text ++ replicate (16 - length text) 0

-- the word whose lowest byte stands at a place
abbrev pub word_at : List ℕ → ℕ → ℕ
word_at bytes i = slice_index bytes i + slice_index bytes (i + 1) * 256 + slice_index bytes (i + 2) * 65536 + slice_index bytes (i + 3) * 16777216

-- the note that has these bytes
abbrev pub note_of : List ℕ → Note
note_of bytes = record { first = word_at bytes 0; second = word_at bytes 4; third = word_at bytes 8; fourth = word_at bytes 12 }

-- a byte of text
abbrev pub text_byte : ℕ → Bool
text_byte b = nat_le 32 b && nat_le b 126

-- nothing but zeros
abbrev pub zeros : List ℕ → Bool
zeros [] = true
zeros (b ∷ bs) = b == 0 && zeros bs

-- bytes from 32 to 126, and then zeros
abbrev pub text_and_zeros : List ℕ → Bool
text_and_zeros [] = true
text_and_zeros (b ∷ bs) = cond (b == 0) (zeros bs) (text_byte b && text_and_zeros bs)

-- A note line is 0 to 16 bytes of text, followed by zeros, in four words.
abbrev pub note_form : Form Note
note_form = record {
  width = 4;
  encode = λ n. n.first ∷ n.second ∷ n.third ∷ n.fourth ∷ [];
  decode = λ ws. record { first = slice_index ws 0; second = slice_index ws 1; third = slice_index ws 2; fourth = slice_index ws 3 };
  written = λ n. text_and_zeros (note_bytes n);
  same = λ n m. (n.first == m.first) && (n.second == m.second && (n.third == m.third && n.fourth == m.fourth));
}
