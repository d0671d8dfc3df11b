-- Every limit and every refusal number by name.
use Rattle.std.specs.Prelude.{ℕ, ◌*◌, ◌-◌}

-- Limits: at most so many

-- bytes of a value
abbrev pub most_value_bytes : ℕ
most_value_bytes = 4096

-- entries of a value
abbrev pub most_entries : ℕ
most_entries = 64

-- values of one message
abbrev pub most_values : ℕ
most_values = 16

-- bytes of a label
abbrev pub most_label_bytes : ℕ
most_label_bytes = 27

-- bytes of a table, in either form
abbrev pub most_table_bytes : ℕ
most_table_bytes = 8192

-- categories of a table
abbrev pub most_categories : ℕ
most_categories = 8

-- bytes of a name: two labels with an `@` between them
abbrev pub most_name_bytes : ℕ
most_name_bytes = 55

-- signals of a table
abbrev pub most_signals : ℕ
most_signals = 32

-- URNs of a signal
abbrev pub most_urns : ℕ
most_urns = 8

-- URNs of a table: those of its signals together
abbrev pub most_table_urns : ℕ
most_table_urns = 256

-- bytes of a URN in a table
abbrev pub most_urn_bytes : ℕ
most_urn_bytes = 255

-- parts of a URN in a table
abbrev pub most_urn_parts : ℕ
most_urn_parts = 8

-- names of a URN in a table: its category and its parts
abbrev pub most_urn_names : ℕ
most_urn_names = 9

-- nodes of a table
abbrev pub most_nodes : ℕ
most_nodes = 64

-- symbols of a machine: a node has at most two
abbrev pub most_symbols : ℕ
most_symbols = 128

-- states of a machine
abbrev pub most_states : ℕ
most_states = 256

-- paths that are tried for one URN: it and what lies above it
abbrev pub most_tries : ℕ
most_tries = 9

-- bytes of a log of calls
abbrev pub most_log_bytes : ℕ
most_log_bytes = 32768

-- the highest count of a tally
abbrev pub most_count : ℕ
most_count = 4294967295

-- counts of refusals in a tally
abbrev pub tally_counts : ℕ
tally_counts = 12

-- the least buffer for a sample
abbrev pub sample_room : ℕ
sample_room = 4096

-- the highest number of a signal
abbrev pub last_signal : ℕ
last_signal = most_signals - 1

-- the last of the places of all signals, a row for each
abbrev pub last_slot : ℕ
last_slot = most_table_urns - 1

-- bytes of all symbols: three each
abbrev pub most_symbol_bytes : ℕ
most_symbol_bytes = 3 * most_symbols

-- Refusal numbers; 0 is an answer

-- the value is too long
abbrev pub value_too_long : ℕ
value_too_long = 1

-- the value is not of the form of the field
abbrev pub value_misfit : ℕ
value_misfit = 2

-- the value has too many entries
abbrev pub too_many_entries : ℕ
too_many_entries = 3

-- the table is too long
abbrev pub table_too_long : ℕ
table_too_long = 4

-- the table stops early, or goes on after its last signal
abbrev pub table_wrong_end : ℕ
table_wrong_end = 5

-- a count or a length of the table is out of range
abbrev pub table_out_of_range : ℕ
table_out_of_range = 6

-- a name or a URN of the table is of wrong form
abbrev pub table_bad_form : ℕ
table_bad_form = 7

-- a category stands twice or is not used, or a URN names one that is not there
abbrev pub table_bad_category : ℕ
table_bad_category = 8

-- a signal has two URNs of one category
abbrev pub table_two_of_category : ℕ
table_two_of_category = 9

-- signal 0 has a URN
abbrev pub table_bad_default : ℕ
table_bad_default = 10

-- two signals have the same places
abbrev pub table_same_places : ℕ
table_same_places = 11

-- the table has too many nodes
abbrev pub table_too_many_nodes : ℕ
table_too_many_nodes = 12

-- the machine would have too many states
abbrev pub too_many_states : ℕ
too_many_states = 13

-- the image does not fit the buffer
abbrev pub image_no_room : ℕ
image_no_room = 14

-- the image is not of the form for the table
abbrev pub image_bad_form : ℕ
image_bad_form = 15

-- state 0 of the image is not the start
abbrev pub image_wrong_start : ℕ
image_wrong_start = 16

-- a target of the image is a state with another signal or other statuses than are due
abbrev pub image_wrong_target : ℕ
image_wrong_target = 17

-- the value has no such entry
abbrev pub no_entry : ℕ
no_entry = 18

-- the message has too many values
abbrev pub too_many_values : ℕ
too_many_values = 19

-- the tally cannot take the answer
abbrev pub not_counted : ℕ
not_counted = 20

-- the nodes of a tree are not those of its signals in their order, or a number leads nowhere
abbrev pub bad_tree : ℕ
bad_tree = 21

-- the other form of the table does not fit the buffer, or is too long for a table
abbrev pub form_no_room : ℕ
form_no_room = 22

-- the set of available signals has one that the table lacks
abbrev pub unknown_available : ℕ
unknown_available = 23

-- the tables of rings and lamps have a category in common
abbrev pub shared_category : ℕ
shared_category = 24

-- the log is too long, stops early or goes on after its last call
abbrev pub bad_log : ℕ
bad_log = 25

-- the buffer for a sample is too short
abbrev pub sample_no_room : ℕ
sample_no_room = 26

-- the classes do not fit the machine in the image
abbrev pub bad_classes : ℕ
bad_classes = 27

-- the record does not belong to the table
abbrev pub bad_record : ℕ
bad_record = 28

-- the table has no such node
abbrev pub unknown_node : ℕ
unknown_node = 30

-- the table has no such signal
abbrev pub unknown_signal : ℕ
unknown_signal = 31
