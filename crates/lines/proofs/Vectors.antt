-- Lines of the listing's example, and some corners.
use mathlib.Core.Path.{◌≡◌, refl}
use Rattle.text.specs.Text.{text, digits_then, decimal}
use Rattle.lines.specs.Lines.{use_text, slot_line, refused_line, bad_line, total_line, long_line}
use Rattle.uses.specs.declared.Use.TheVariants.{Hard, Given, Empty, Lost}

first_slot : slot_line 1 (Hard 1) 0 ≡ text "1 H1 0\n"
unfolding decimal digits_then use_text
first_slot = refl

given_slot : slot_line 6 (Given 7) 0 ≡ text "6 N7 0\n"
unfolding decimal digits_then use_text
given_slot = refl

empty_slot : slot_line 10 Empty 0 ≡ text "10 E 0\n"
unfolding decimal digits_then use_text
empty_slot = refl

lost_slot_lem : slot_line 281474976710656 Lost 65535 ≡ text "281474976710656 L 65535\n"
unfolding decimal digits_then use_text
lost_slot_lem = refl

total : total_line 9 3 0 0 0 ≡ text "total 9 3 0 0 0\n"
unfolding decimal digits_then
total = refl

refused : refused_line 7 2 ≡ text "refused 7 2\n"
unfolding decimal digits_then
refused = refl

bad : bad_line 25 ≡ text "bad 25\n"
unfolding decimal digits_then
bad = refl

long : long_line ≡ text "long\n"
long = refl
