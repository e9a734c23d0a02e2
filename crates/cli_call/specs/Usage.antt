-- The text that is printed for a faulty command line, byte by byte.
use Rattle.std.specs.Prelude.{ℕ, List, ◌++◌, codes}

-- the text that is printed where the command line is faulty
abbrev pub usage_text : List ℕ
usage_text =
    codes "usage: mic assemble SOURCE IMAGE\n"
    ++ codes "       mic list FILE [--map W]\n"
    ++ codes "       mic verify FILE [--map W]\n"
    ++ codes "       mic run FILE [--machine V] [--bound N] [--micro MAL] [--map W]\n"
    ++ codes "       mic trace FILE [--machine V] [--bound N] [--micro MAL] [--buses] [--map W]\n"
    ++ codes "       mic profile FILE [--machine V] [--bound N] [--micro MAL] [--map W]\n"
    ++ codes "       mic debug FILE [--machine V] [--bound N] [--micro MAL] [--input INPUT] [--map W]\n"
    ++ codes "       mic reference FILE [--machine V] [--bound N] [--map W]\n"
    ++ codes "       mic micro MAL STORE [--machine V]\n"
    ++ codes "       mic print-micro [FILE] [--machine V]\n"
    ++ codes "       mic soak SEED SIZE [--machine V]\n"
    ++ codes "       mic cache FILE LINES [--bound N] [--map W]\n"
    ++ codes "       mic rewind FILE [--machine V] [--input INPUT] [--depth D] [--map W]\n"
    ++ codes "       mic compile TINY IMAGE\n"
    ++ codes "       mic tiny TINY [--machine V] [--bound N]\n"
