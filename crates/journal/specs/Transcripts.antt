-- What a journal's text is answered with: a line for each of its lines, then the sheet, then a summary.
use Rattle.std.specs.Prelude.{ℕ, ◌+◌, List, [], ◌∷◌, ◌++◌, map, length, take, Some, None, Ok, Err, Option, Result, slice_index, slice_index_or}
use Rattle.std.specs.List.{range_with_len, flat_map}
use Rattle.fault.specs.declared.Fault.{Fault}
use Rattle.sheet.specs.Calls.{Call, edit, judged, sheet_after}
use Rattle.sheet.specs.Sheets.{Sheet}
use Rattle.sheet.specs.Words.{word_of}
use Rattle.sheet.specs.declared.edit.Edit.{Edit}
use Rattle.journal.specs.Cuts.{cut, lines_of, with_feed}
use Rattle.journal.specs.Lines.{said}
use Rattle.journal.specs.Replies.{Reply}
use Rattle.journal.specs.Tallies.{count, is_accepted, is_call, is_refused, is_unreadable}
use Rattle.journal.specs.Texts.{held_text, pair_text, reply_text, summary_text}
use Rattle.journal.specs.declared.reply.LineError.TheVariants.{Refused, Unreadable}
use Rattle.journal.specs.declared.text.Summary.{Summary}

-- the call that a line says, if it says one
abbrev pub called : Option Edit → List Call
called None = []
called (Some e) = edit e ∷ []

-- the calls of lines, in their order
abbrev pub calls_in : List (List ℕ) → List Call
calls_in ls = flat_map (λ l. called (said l)) ls

abbrev pub reply_of : Result (Unit {0}) Fault → Reply
reply_of (Ok u) = Ok u
reply_of (Err f) = Err (Refused f)

-- the reply to a line, by what it says, on a sheet
abbrev pub answered : Sheet → Option Edit → Reply
answered s None = Err Unreadable
answered s (Some e) = reply_of (judged s e)

-- the replies to lines: the one to line k, counted from 0, is judged on the sheet that the calls of the first k lines made
unfoldable pub replies : List (List ℕ) → List Reply
replies ls = map (λ k. answered (sheet_after (calls_in (take k ls))) (said (slice_index_or ls k []))) (range_with_len 0 (length ls))

abbrev pub reply_lines : List Reply → List ℕ
reply_lines rs = flat_map (λ r. with_feed (reply_text r)) rs

-- a line for each room, by its number, and one for each pair
abbrev pub room_lines : Sheet → List ℕ
room_lines s = flat_map (λ k. with_feed (held_text (k + 1) (slice_index s.uses k))) (range_with_len 0 (length s.uses))

abbrev pub pair_lines : Sheet → List ℕ
pair_lines s = flat_map (λ p. with_feed (pair_text (word_of p))) s.pairs

abbrev pub summary_of : List Reply → Sheet → Summary
summary_of rs s = record {
  tally = record {
    calls = count is_call rs;
    accepted = count is_accepted rs;
    refused = count is_refused rs;
    unreadable = count is_unreadable rs;
  };
  rooms = length s.uses;
  pairs = length s.pairs;
}

-- what is printed at the end
abbrev pub closing : List Reply → Sheet → List ℕ
closing rs s = room_lines s ++ (pair_lines s ++ with_feed (summary_text (summary_of rs s)))

-- the whole answer to a text
abbrev pub transcript : List ℕ → List ℕ
transcript text = reply_lines (replies (lines_of text)) ++ closing (replies (lines_of text)) (sheet_after (calls_in (lines_of text)))

-- the part of it that answers the lines which a line feed has ended
abbrev pub answered_so_far : List ℕ → List ℕ
answered_so_far text = reply_lines (replies (cut text).ended)
