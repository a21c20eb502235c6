-- The facts of document 01, each computed from the definitions.
use mathlib.Core.Path.{refl}
use Rattle.graph.specs.Graph.{in_mask}
use Rattle.graph.specs.Numbers.{some_below, least, each, many, most}
use Rattle.graph.specs.Search.{round, within, label_of, labels, looked}
use Rattle.graph.specs.Sets.{word}
use Rattle.graph.specs.Checker.{entry, check1, check2, check3, check5, fault, verdict}
use Rattle.graph.specs.Certificate.{dist_of, distances, climbed, rank_of, ranks, entries, certificate}
use Rattle.graph.specs.Paths.{nearer, walk}
use Rattle.graph.specs.Summary.{summary, sharing}
use Rattle.graph.specs.Refusal.{given, ◌or◌, outside, table_refusal, lacking}
use Rattle.paths.specs.Promise.{ask_on, refusal_on}
use Rattle.lines.specs.Pieces.{before, split}
use Rattle.lines.specs.Numbers.{digits_only, value_from, number_of, filled, words, and_then, numbers_of, content}
use Rattle.text.specs.Market.{same, is_comment, has_none, passed_over, pass_over, size_refusal, sized, size_of, entries as entry_lines, as_table, at_size, from_size, from_first, market}
use Rattle.facts.specs.Facts.{Facts, Runs, Mentions}
use Rattle.facts.proofs.Marks.{word_marks}

pub facts : Facts
unfolding in_mask labels label_of within round each least some_below many word looked certificate ranks rank_of climbed distances dist_of entries entry walk nearer refusal_on ask_on table_refusal lacking outside given ◌or◌
facts =
    record {
      p1 = refl;
      p2 = refl;
      p3 = refl;
      p4 = refl;
      p5_in = refl;
      p5_out = refl;
      p6 = (refl, refl);
      p7 = (refl, refl);
      p8 = (refl, refl);
      words_are_sets = word_marks;
      p9 = (refl, refl);
      p9_room = refl;
      p10 = refl;
      p11 = refl;
      p11_next = refl;
    }

pub runs : Runs
unfolding in_mask within round each least some_below many most certificate ranks rank_of climbed distances dist_of entries entry check1 check2 check3 check5 fault verdict summary sharing table_refusal given ◌or◌ outside before split digits_only value_from number_of filled words and_then numbers_of content same is_comment has_none passed_over pass_over size_refusal sized size_of entry_lines as_table at_size from_size from_first market
runs =
    record {
      summary_of_t = refl;
      columns_pass = refl;
      five_labelled_three = refl;
      ranks_zero = refl;
      most_pass = refl;
      one_more = refl;
      program_passes = refl;
      program_refuses = refl;
    }

pub mentions : Mentions
unfolding in_mask labels label_of within round each least some_below many word looked certificate ranks rank_of climbed distances dist_of entries entry check1 check2 check3 check5 fault verdict refusal_on ask_on table_refusal lacking outside given ◌or◌
mentions =
    record {
      bound = refl;
      broken = refl;
      ranks = refl;
      forward = (refl, refl);
      backward = (refl, refl);
      no_way_back = refl;
      columns_fail = refl;
      six_kinds = refl;
      kind_eight = refl;
    }
