-- What the program's tests show. Assumes nothing.
mod Ends
