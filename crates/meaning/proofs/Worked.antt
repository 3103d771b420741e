-- The worked cases, computed. Assumes nothing.
use Rattle.std.proofs.Common.{refl}
use Rattle.std.specs.Fmt.{digits}
use Rattle.meaning.specs.Worked.{Worked}
use Rattle.meaning.specs.Further.{Further}

pub worked : Worked
unfolding digits
worked = record {
  list = refl;
  text = refl;
  short_path = refl;
  satisfies = refl;
  follows_it = refl;
  changed_now = refl;
  changed_saved = refl;
  ends_so = refl;
  fails_at_11 = refl;
  departs_there = refl;
  throws_so = refl;
  rolled_back_lem = refl;
  other_way = refl;
  empty_again = refl;
  fails_at_4 = refl;
  unlawful_9 = refl;
  fails_at_3 = refl;
  unlawful_7 = refl;
  fails_at_6 = refl;
  halts_full = refl;
  fails_at_5 = refl;
  halts_unread = refl;
  rows_64 = refl;
  rows_65 = refl;
  toward_zero = refl;
  too_large = refl;
}

pub further : Further
unfolding digits
further = record {
  text = refl;
  satisfies = refl;
  ends = refl;
  traces = refl;
  leaves = refl;
  fails_at_13 = refl;
  shift_text = refl;
  follows_WK = refl;
  thrown_back = refl;
  throws = refl;
  departs_WW = refl;
  agreed_WW = refl;
  left_back = refl;
  halts = refl;
  halted_back = refl;
  cut_off = refl;
  cut_back = refl;
}
